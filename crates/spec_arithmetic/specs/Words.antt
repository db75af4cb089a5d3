-- Words of 32 bits, and tests on lists of numbers.
use Rattle.std.specs.Prelude.{ℕ, ◌+◌, ◌*◌, ◌/◌, ◌%◌, Bool, true, false, List, [], ◌∷◌, eqb}

-- 2^28, the number of values of a word
abbrev pub values : ℕ
values = 268435456

-- 2^56, the number of numbers of two words
abbrev pub pairs : ℕ
pairs = 72057594037927936

-- "The top 4 bits of a word are its kind, the low 28 its value. All are unsigned."; the kind is the word's
-- tag: it says what the value stands for
unfoldable pub kind : ℕ → ℕ
kind w = w / values

unfoldable pub value : ℕ → ℕ
value w = w % values

-- the word of kind k with the value v
unfoldable pub word : ℕ → ℕ → ℕ
word k v = k * values + v

-- a number of two words, "high then low 28 bits"
unfoldable pub high : ℕ → ℕ
high x = x / values

unfoldable pub low : ℕ → ℕ
low x = x % values

unfoldable pub joined : ℕ → ℕ → ℕ
joined h l = h * values + l

-- two lists are the same
unfoldable pub same : List ℕ → List ℕ → Bool
same [] [] = true
same [] (y ∷ ys) = false
same (x ∷ xs) [] = false
same (x ∷ xs) (y ∷ ys) = elim (eqb x y) [ true ↦ same xs ys | false ↦ false ]

-- some number of the list does not pass a test
unfoldable pub some_not : (ℕ → Bool) → List ℕ → Bool
some_not t [] = false
some_not t (x ∷ xs) = elim (t x) [ true ↦ some_not t xs | false ↦ true ]

-- a number is in a list
unfoldable pub one_of : List ℕ → ℕ → Bool
one_of [] x = false
one_of (y ∷ ys) x = elim (eqb x y) [ true ↦ true | false ↦ one_of ys x ]
