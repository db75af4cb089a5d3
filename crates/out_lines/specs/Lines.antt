-- The numbers in a record's words, and the bytes before its coefficients.
use Rattle.std.specs.Prelude.{ℕ, ◌+◌, List, ◌∷◌, ◌++◌, get_or}
use Rattle.spec_arithmetic.specs.Words.{value, joined}
use Rattle.spec_definitions.specs.Text.{decimal}

-- the number in the two words from `at` on
unfoldable pub joined_at : List ℕ → ℕ → ℕ
joined_at l at = joined (value (get_or l at 0)) (value (get_or l (at + 1) 0))

-- the bytes of a record's line before its coefficients
unfoldable pub head_bytes : List ℕ → List ℕ
head_bytes r = (decimal (value (get_or r 0 0)) ++ (32 ∷ decimal (joined_at r 1))) ++ (32 ∷ decimal (joined_at r 3))
