-- The proofs of specs/Place.
use Rattle.std.specs.Prelude.{ℕ, suc, ◌+◌ as ◌+ₙ◌, ◌-◌ as ◌-ₙ◌, ◌≡◌, refl}
use Rattle.std.proofs.Common.{arith}
use Rattle.math_algebra.specs.Field.{Field}
use Rattle.math_algebra.specs.Polynomial.{Px, Deg, deg_unique}
use Rattle.math_algebra.specs.Associate.{associate_deg}
use Rattle.math_surd.specs.Root.{Root}
use Rattle.math_surd.specs.Walk.{Walk}
use Rattle.math_surd.specs.Distance.{distance}
use Rattle.math_surd.specs.Ideal.{SameIdeal, Follows}
use Rattle.math_surd.proofs.Ideal.{same_refl, same_trans, next_same}
use Rattle.math_surd.proofs.Same.{walk_follows}
use Rattle.math_giants.specs.GiantStep.{GiantStep}
use Rattle.math_giants.proofs.GiantStep.{drop_most}
use Rattle.math_giants.specs.Lands.{Landed}
use Rattle.math_giants.proofs.Lands.{lands}
use Rattle.math_giants.specs.Place as defs

module _ {A : Type 0} (K : Field A) {g : ℕ} {D : Px K} {o : Root K g D} (w : Walk K o) where
  abbrev Placed : (Q P : Px K) → (δ at : ℕ) → Type 0
  Placed = defs.Placed K w

  abbrev GiantPlaced : {Q₁ P₁ Q₂ P₂ : Px K} → (G : GiantStep K o Q₁ P₁ Q₂ P₂) → (δ : ℕ) → Type 0
  GiantPlaced = defs.GiantPlaced K w

  -- ---- the proof
  pub placed_walk : (i : ℕ) → Placed (w.Q i) (w.P i) (distance K w i) i
  placed_walk i = record { same = same_refl K (w.Q i) (w.P i); distance_is = refl }

  module _ {Q P : Px K} {δ at : ℕ} (s : Placed Q P δ at) where
    placed_deg : Deg K Q (w.κ at)
    placed_deg = associate_deg K s.same.ratio (w.Q_deg at)

    -- the distance of the next ideal
    pub placed_next : {κ : ℕ} → Deg K Q κ → distance K w (suc at) ≡ δ +ₙ (suc g -ₙ κ)
    placed_next t = let e = deg_unique K t placed_deg in let e' = s.distance_is in omega arith

    -- another pair of the same ideal
    pub placed_same : {Q' P' : Px K} → SameIdeal K Q' P' Q P → Placed Q' P' δ at
    placed_same h = record { same = same_trans K h s.same; distance_is = s.distance_is }

    -- the ideal that follows
    pub placed_step : {Q' P' : Px K} → Follows K o Q P Q' P' → {κ : ℕ} → Deg K Q κ → Placed Q' P' (δ +ₙ (suc g -ₙ κ)) (suc at)
    placed_step f t = record { same = next_same K o s.same f (walk_follows K w at); distance_is = placed_next t }

  pub placed_giant : {Q₁ P₁ Q₂ P₂ : Px K} {δ₁ δ₂ i j : ℕ} (G : GiantStep K o Q₁ P₁ Q₂ P₂) → Placed Q₁ P₁ δ₁ i → Placed Q₂ P₂ δ₂ j → GiantPlaced G (δ₁ +ₙ δ₂)
  placed_giant {δ₁ = δ₁} {δ₂} {i} {j} G s t = go (lands K w G i j s.same t.same)
    where
      go : Landed K w G (distance K w i) (distance K w j) → GiantPlaced G (δ₁ +ₙ δ₂)
      go l = record {
        at = l.at;
        less = let a = s.distance_is in let b = t.distance_is in let c = l.distance_is in omega arith;
        few = drop_most K G (placed_deg s) (placed_deg t) (w.reduced i) (w.reduced j);
        placed = record { same = l.same; distance_is = let a = s.distance_is in let b = t.distance_is in let c = l.distance_is in omega arith };
      }
