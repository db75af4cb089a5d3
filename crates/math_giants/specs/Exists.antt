-- Any two ideals have a giant step: S is the greatest common divisor of Q₁, Q₂ and P₁ + P₂, the product
-- follows by its multipliers, and from it the steps go on for ever, since D is not a square. `giant_exists`
-- says so, and `walk_giant` of two ideals of the walk.
use Rattle.std.specs.Prelude.{ℕ, suc, ◌+◌ as ◌+ₙ◌}
use Rattle.math_ring.specs.Series.{Series}
use Rattle.math_algebra.specs.Field.{Field}
use Rattle.math_algebra.specs.Polynomial.{F, Px}
use Rattle.math_surd.specs.Root.{Root, NoSquare}
use Rattle.math_surd.specs.Step.{State}

module _ {A : Type 0} (K : Field A) where
  open Series (F K) use {add as ◌+◌, mul as ◌*◌, neg as -◌, zer as 𝟘, one as 𝟙}

  infixl 6 ◌+◌
  infixl 7 ◌*◌
  infix 8 -◌
  module _ {g : ℕ} {D : Px K} (o : Root K g D) (no_square : NoSquare K D) where
    -- ---- the steps from a state
    pub record Point : Type 0 where
      pub Q : Px K
      pub C : Px K
      pub P : Px K
      pub state : State K D Q C P

    unfoldable pub sum_size : Point → ℕ
    sum_size p = p.state.size +ₙ suc (suc g)
