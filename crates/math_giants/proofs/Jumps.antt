-- The proofs of specs/Jumps.
use Rattle.std.specs.Prelude.{ℕ, zero, suc, ◌+◌ as ◌+ₙ◌, ◌≤◌, ◌≡◌}
use Rattle.std.proofs.Math.Path.{refl}
use Rattle.math_algebra.specs.Field.{Field}
use Rattle.math_algebra.specs.Polynomial.{Px}
use Rattle.math_algebra.specs.Associate.{associate_deg}
use Rattle.math_surd.specs.Root.{Root}
use Rattle.math_surd.specs.Walk.{Walk}
use Rattle.math_surd.specs.Distance.{distance}
use Rattle.math_surd.specs.Ideal.{SameIdeal}
use Rattle.math_surd.proofs.Ideal.{same_refl, same_sym, same_trans}
use Rattle.math_giants.specs.GiantStep.{drop}
use Rattle.math_giants.proofs.GiantStep.{drop_most}
use Rattle.math_giants.proofs.Exists.{walk_giant}
use Rattle.math_giants.specs.Lands.{Landed}
use Rattle.math_giants.proofs.Lands.{lands}
use Rattle.math_landings.specs.Landings.{Landings, Stocked}
use Rattle.math_giants.specs.Jumps as defs

module _ {A : Type 0} (K : Field A) {g : ℕ} {D : Px K} {o : Root K g D} (w : Walk K o) where
  abbrev Jumps : (k : ℕ) → Type 0
  Jumps = defs.Jumps K w

  -- ---- the proof
  module _ {k : ℕ} (s : Jumps k) where
    abbrev Index : (j : ℕ) → Type 0
    Index = defs.Index K w s

    index : (j : ℕ) → Index j
    index zero = record { at = k; same = s.start }
    index (suc j) = let l = lands K w (s.giant j) (index j).at k (index j).same s.start in record { at = l.at; same = same_trans K (s.next j) l.same }

    jump : (j : ℕ) → distance K w (index (suc j)).at +ₙ drop K (s.giant j) ≡ distance K w (index j).at +ₙ distance K w k
    unfolding index
    jump j = (lands K w (s.giant j) (index j).at k (index j).same s.start).distance_is

    few : (j : ℕ) → drop K (s.giant j) ≤ g +ₙ g
    few j = drop_most K (s.giant j) (associate_deg K (index j).same.ratio (w.Q_deg (index j).at)) (associate_deg K s.start.ratio (w.Q_deg k)) (w.reduced (index j).at) (w.reduced k)

    index_start : (index 0).at ≡ k
    unfolding index
    index_start = refl

    pub landings : Landings K w k
    landings = record { at = λ j. (index j).at; drop = λ j. drop K (s.giant j); start = index_start; jump = jump; few = few }

    -- in the stock
    pub stocked : (j i : ℕ) → i ≤ k → SameIdeal K (s.Q j) (s.P j) (w.Q i) (w.P i) → Stocked K w landings j i
    unfolding landings
    stocked j i l h = record { inside = l; same = same_trans K (same_sym K (index j).same) h }

    pub stocked_same : (j i : ℕ) → Stocked K w landings j i → SameIdeal K (s.Q j) (s.P j) (w.Q i) (w.P i)
    unfolding landings
    stocked_same j i h = same_trans K (index j).same h.same

  -- ---- every k, with the pairs of the walk
  module _ (k : ℕ) where
    landed : (i : ℕ) → Landed K w (walk_giant K w i k) (distance K w i) (distance K w k)
    landed i = lands K w (walk_giant K w i k) i k (same_refl K (w.Q i) (w.P i)) (same_refl K (w.Q k) (w.P k))

    place : ℕ → ℕ
    place zero = k
    place (suc j) = (landed (place j)).at

    pub jumps : Jumps k
    unfolding place
    jumps = record { Q = λ j. w.Q (place j); P = λ j. w.P (place j); start = same_refl K (w.Q k) (w.P k); giant = λ j. walk_giant K w (place j) k; next = λ j. same_sym K (landed (place j)).same }
