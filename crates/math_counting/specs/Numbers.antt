-- The n numbers below n as a duplicate-free list, and how many of them pass a test.
use Rattle.std.specs.Prelude.{ℕ, zero, suc}
use mathlib.Core.List.{List, [], ◌∷◌}

-- the n numbers below n
unfoldable pub numbers : ℕ → List ℕ
numbers zero = []
numbers (suc n) = n ∷ numbers n
