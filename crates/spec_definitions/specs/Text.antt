-- Text as bytes: the codes of a text's characters, and numbers in decimal.
use Rattle.std.specs.Prelude.{ℕ, zero, suc, ◌+◌, ◌/◌, ◌%◌, true, false, List, [] as none, ◌∷◌ as ◌before◌, ◌++◌, ltb}
use Prim.Native.Char.{code}
use Prim.Native.String.{String, [], ◌∷◌}

unfoldable pub ascii : String → List ℕ
ascii [] = none
ascii (c ∷ s) = code c before ascii s

-- the digits of n before those that stand already; the first number bounds the turns
unfoldable pub decimal_in : ℕ → ℕ → List ℕ → List ℕ
decimal_in zero n l = l
decimal_in (suc k) n l = elim (ltb n 10) [ true ↦ (48 + n) before l | false ↦ decimal_in k (n / 10) ((48 + n % 10) before l) ]

unfoldable pub decimal : ℕ → List ℕ
decimal n = decimal_in (suc n) n none

-- numbers, each after a space
unfoldable pub spaced : List ℕ → List ℕ
spaced none = none
spaced (n before l) = 32 before (decimal n ++ spaced l)

-- a word, numbers, and the end of the line
unfoldable pub line : List ℕ → List ℕ → List ℕ
line w l = w ++ (spaced l ++ (10 before none))
