-- The two tests of the estimate, and how many elements pass one: a nonzero square is z² for some z ≠ 0, a non-square
-- is z² for no z. No element is both.
use Prim.Native.Nat.{ℕ, suc, ◌*◌, ◌%◌}
use Rattle.std.specs.Prelude.{◌≡◌, ◌≢◌, Bool}
use Rattle.std.proofs.Math.Bool.{true, false}
use Rattle.spec_arithmetic.specs.Field.{FieldName}

-- "a nonzero square": some z ≠ 0 has z² = v
abbrev pub Square : ℕ → ℕ → Type 0
Square q v = (z : ℕ) × (z % q ≢ 0) × ((z * z) % q ≡ v)

-- "a non-square": no z has z² = v
abbrev pub NonSquare : ℕ → ℕ → Type 0
NonSquare q v = (z : ℕ) → (z * z) % q ≢ v

-- ---- some z from 1 to k
module _ (f : FieldName) (v : ℕ) where
  abbrev q : ℕ
  q = f.q

-- ---- how many numbers below k pass a test
-- one more where the test is true
abbrev pub more : Bool → ℕ → ℕ
more true k = suc k
more false k = k
