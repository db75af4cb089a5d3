-- The last ideal of the endless walk at or below a distance y, by halving: from the last one for y div 2, a
-- giant step with itself and then single steps, at most 4 g + 1 of them, lead to the last one for y:
-- `FromHalf`, proved by `from_half`. So every y has one last ideal at or below it: `Below`, proved by
-- `below`, by induction on y. Carried by f ≤ 0, so that the giant step does not pass y, and by the strict
-- rise of the distance, so that single steps reach the last.
use Rattle.std.specs.Prelude.{ℕ, suc, ◌+◌ as ◌+ₙ◌, ◌-◌ as ◌-ₙ◌, ◌/◌, ◌≤◌, ◌<◌, ◌≡◌}
use Rattle.math_algebra.specs.Field.{Field}
use Rattle.math_algebra.specs.Polynomial.{Px}
use Rattle.math_surd.specs.Root.{Root}
use Rattle.math_surd.specs.Walk.{Walk}
use Rattle.math_surd.specs.Distance.{distance}
use Rattle.math_giants.specs.GiantStep.{GiantStep, drop}
use Rattle.math_giants.specs.Place.{Placed, GiantPlaced}

module _ {A : Type 0} (K : Field A) {g : ℕ} {D : Px K} {o : Root K g D} (w : Walk K o) where
  -- the index i has the last distance of at most y
  pub record Last (y i : ℕ) : Type 0 where
    pub low : distance K w i ≤ y
    pub high : y < distance K w (suc i)

  -- single steps from the index l: each to a distance of at most y, and none further
  pub record SingleSteps (y l : ℕ) : Type 0 where
    pub steps : ℕ
    pub last : Last y (steps +ₙ l)
    pub each : (i : ℕ) → i < steps → distance K w (suc (i +ₙ l)) ≤ y
    pub few : distance K w l +ₙ steps ≤ y

  -- the giant step of an ideal at the distance δ with itself is an ideal at a distance of at most y, and 4 g
  -- + 1 single steps or fewer lead to the last index for y
  pub record Doubled (y δ : ℕ) {Q P : Px K} (G : GiantStep K o Q P Q P) : Type 0 where
    pub landing : GiantPlaced K w G (δ +ₙ δ)
    pub not_past : (δ +ₙ δ) -ₙ drop K G ≤ y
    pub singles : SingleSteps y landing.at
    pub few : singles.steps ≤ suc (g +ₙ g +ₙ (g +ₙ g))

  -- from the last index for y div 2, with any pair (Q, P) for its ideal, to the last index for y
  abbrev pub FromHalf : Px K → Px K → ℕ → ℕ → Type 0
  FromHalf Q P δ i = (y : ℕ) → Placed K w Q P δ i → Last (y / 2) i → (G : GiantStep K o Q P Q P) → Doubled y δ G

  -- one index has the last distance of at most y, and every index with such a distance is at most that one
  pub record Below (y : ℕ) : Type 0 where
    pub at : ℕ
    pub last : Last y at
    pub most : (j : ℕ) → distance K w j ≤ y → j ≤ at
    pub only : (j : ℕ) → Last y j → j ≡ at
