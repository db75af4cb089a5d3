-- The steps from any ideal by the recurrences of the walk, as equations of lists: with the remainder r_{j−1}
-- of the step before, P_j + d is 2d − r_{j−1}, and the next Q is the Q before and a_j·(r_j − r_{j−1}). Before
-- the first step these are d − P_0 and (D − P_0²)/Q_0.
use Prim.Native.Nat.{ℕ, zero, suc}
use mathlib.Core.List.{List}
use Rattle.spec_arithmetic.specs.Field.{Ops}
use Rattle.spec_arithmetic.specs.Polynomials.{add, sub, rem}
use Rattle.spec_definitions.specs.Walk.{Ideal, steps}
use Rattle.spec_laws.specs.Pairs.{cofactor_at}

module _ {A : Type 0} (o : Ops A) (D d : List A) (x : Ideal A) where
  -- Q_{j−1}
  unfoldable pub before : ℕ → List A
  before zero = cofactor_at o D x
  before (suc j) = (steps o D d x j).q

  -- r_{j−1}, the remainder of P_{j−1} + d by Q_{j−1}
  unfoldable pub left : ℕ → List A
  left zero = sub o d x.p
  left (suc j) = rem o (add o (steps o D d x j).p d) (steps o D d x j).q
