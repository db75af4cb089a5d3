-- What the tests of half the walk ask for and what they say, on arrays of 129 places.
use Rattle.std.specs.Prelude.{ℕ, ◌-◌, ◌<◌, ◌≤◌, ◌≡◌, Option, None, Some, List, length, get_or}
use Rattle.spec_arithmetic.specs.Field.{FieldName, ops}
use Rattle.base_places.specs.Places.{Within}
use Rattle.base_polynomial.specs.declared.Poly.{Poly}
use Rattle.walk_state.specs.declared.Walk.{Walk}
use Rattle.walk_state.specs.Walk.{name, top}
use Rattle.walk_stride.specs.declared.Progress.{Progress}
use Rattle.walk_middle.specs.declared.Stop.{Stop}
use Rattle.walk_middle.specs.declared.Stop.TheVariants.{ByQ, ByP, Budget}

-- each times the leading coefficient of the other is the same
abbrev pub Proportional : FieldName → List ℕ → List ℕ → ℕ → Type 0
Proportional f x y size = (i : ℕ) → (ops f).mul (get_or x i 0) (get_or y (size - 1) 0) ≡ (ops f).mul (get_or y i 0) (get_or x (size - 1) 0)

-- the Q before and Q, and the remainders before and after the step from here on
pub record Tested (w : Walk) (before current : Poly) (rest remains : List ℕ) : Type 0 where
  pub some : 0 < current.size
  pub most : current.size ≤ top w
  pub before_within : Within (name w) before.c before.size
  pub current_within : Within (name w) current.c current.size
  pub rest_long : length rest ≡ 129
  pub remains_long : length remains ≡ 129
  pub rest_within : Within (name w) rest (top w)
  pub remains_within : Within (name w) remains (top w)

-- Q is a constant times the Q before
abbrev pub MultipleQ : Walk → Poly → Poly → Type 0
MultipleQ w before current = (before.size ≡ current.size) × Proportional (name w) before.c current.c current.size

-- by the Qs; by the remainders, where it is not by the Qs; by the budget, or not at all, where it is by neither
abbrev pub Stops : Walk → ℕ → Poly → Poly → List ℕ → List ℕ → Progress → Option Stop → Type 0
Stops w budget before current rest remains at None = (¬ MultipleQ w before current) × (¬ (rest ≡ remains)) × (¬ (at.index.0 ≡ budget))
Stops w budget before current rest remains at (Some ByQ) = MultipleQ w before current
Stops w budget before current rest remains at (Some ByP) = (¬ MultipleQ w before current) × (rest ≡ remains)
Stops w budget before current rest remains at (Some Budget) = (¬ MultipleQ w before current) × (¬ (rest ≡ remains)) × (at.index.0 ≡ budget)
