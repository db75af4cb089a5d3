-- The outcome of half the walk from what the code holds: P_{i+1} = P_{i+2} exactly where the remainders of the
-- indices i + 1 and i + 2 are the same list, Q_{i+1} is a constant times Q_i exactly where each times the
-- other's leading coefficient is the same list, and R comes from deg p_i.
use Prim.Native.Nat.{ℕ, suc, ◌<◌}
use Rattle.std.specs.Prelude.{◌≡◌, false, List}
use Rattle.spec_arithmetic.specs.Field.{FieldName, ops}
use Rattle.spec_arithmetic.specs.Polynomials.{scale, lead, root}
use Rattle.spec_half.specs.Half.{middle_q?, middle_p?}

-- x times the leading coefficient of y, and y times that of x, are the same list
abbrev pub Cross : FieldName → List ℕ → List ℕ → Type 0
Cross f x y = scale (ops f) (lead (ops f) x) y ≡ scale (ops f) (lead (ops f) y) x

-- no test holds before i
pub record NoTestHolds (f : FieldName) (g : ℕ) (D : List ℕ) (i : ℕ) : Type 0 where
  pub no_Q : (j : ℕ) → j < i → middle_q? (ops f) D (root (ops f) D (suc g)) j ≡ false
  pub no_P : (j : ℕ) → j < i → middle_p? (ops f) D (root (ops f) D (suc g)) j ≡ false
