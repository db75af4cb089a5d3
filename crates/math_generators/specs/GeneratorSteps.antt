-- A big generator through the steps of a reduction: what is reached after k steps has a big generator, whose
-- degree has grown by the sum of deg (P_j + d) - deg Q_{j-1} for j from 1 to k. `reached` says so, step by
-- step.
use Rattle.std.specs.Prelude.{ℕ, ◌+◌ as ◌+ₙ◌, ◌≡◌}
use Rattle.math_algebra.specs.Field.{Field}
use Rattle.math_algebra.specs.Polynomial.{Px}
use Rattle.math_surd.specs.Root.{Root}
use Rattle.math_surd.specs.Big.{Big}
use Rattle.math_algebra.specs.Finite.{Finite}
use Rattle.math_ideals.specs.Steps.{Steps, height, height_sum, prior_sum}
use Rattle.math_generators.specs.Generators.{Generates}

module _ {A : Type 0} (K : Field A) {g : ℕ} {D : Px K} {o : Root K g D} (s : Steps K o) where
  -- a big generator of the ideal after k steps, where that of the start has a y of degree v
  pub record Reached (v k : ℕ) : Type 0 where
    pub x : Px K
    pub y : Px K
    pub x_finite : Finite K x
    pub y_finite : Finite K y
    pub generates : Generates K D x y (s.Q k) (s.P k)
    pub big : Big K o x y
    pub height_is : big.height +ₙ prior_sum K s k ≡ v +ₙ height_sum K s k
