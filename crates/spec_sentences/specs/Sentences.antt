-- The sentences 1 to 7 by which a ticket is refused, as statements about any list of words, with no test in
-- them. What the words say is read at their places; 7 speaks of polynomials as lists of coefficients and uses
-- their size and product over the field of q elements.
use Rattle.std.specs.Prelude.{ℕ, ◌+◌, ◌%◌, ◌≤◌, ◌<◌, ◌≡◌, ◌≢◌, ◌⊎◌, List, [], ◌∷◌, map, length, get_or, take, drop}
use Rattle.spec_arithmetic.specs.Field.{FieldName, prime, ops, reading}
use Rattle.spec_arithmetic.specs.Polynomials.{size, add, sub, mul}
use Rattle.spec_arithmetic.specs.Words.{kind, value}

module _ (w : List ℕ) where
  -- the kind and the value of word i
  abbrev pub kind_at : ℕ → ℕ
  kind_at i = kind (get_or w i 0)

  abbrev pub value_at : ℕ → ℕ
  value_at i = value (get_or w i 0)

  -- "In order: kind 1: q; kind 2: n; kind 3, n+1 words: the coefficients of D, constant term first"
  abbrev pub q : ℕ
  q = value_at 0

  abbrev pub field : FieldName
  field = prime q

  abbrev pub n : ℕ
  n = value_at 1

  abbrev pub coefficient : ℕ → ℕ
  coefficient i = value_at (i + 2)

  abbrev pub D : List ℕ
  D = map value (take (n + 1) (drop 2 w))

-- an odd prime below 4,096: odd, more than 1, and every number that divides it is 1 or itself
pub record AllowedPrime (q : ℕ) : Type 0 where
  pub odd : q % 2 ≡ 1
  pub below : q < 4096
  pub more : 1 < q
  pub divisors : (d : ℕ) → q % d ≡ 0 → (d ≡ 1) ⊎ (d ≡ q)

-- the field of q elements for such a q
abbrev pub AllowedField : FieldName → Type 0
AllowedField f = AllowedPrime f.q

-- the same polynomial: each coefficient is the same in the field
abbrev pub Same : FieldName → List ℕ → List ℕ → Type 0
Same f l h = (i : ℕ) → reading f (get_or l i 0) ≡ reading f (get_or h i 0)

-- sum, difference and product of polynomials over a field, for infix names
pub record Operators : Type 0 where
  pub plus : List ℕ → List ℕ → List ℕ
  pub minus : List ℕ → List ℕ → List ℕ
  pub times : List ℕ → List ℕ → List ℕ

abbrev pub operators : FieldName → Operators
operators f = record { plus = add (ops f); minus = sub (ops f); times = mul (ops f) }

-- D = h²·e over the field, with h of degree 1 or more; h and e are lists of any length, of any numbers
pub record SquareDivides (f : FieldName) (D : List ℕ) : Type 0 where
  pub h : List ℕ
  pub e : List ℕ
  pub degree : 2 ≤ size (ops f) h
  pub product : Same f D (mul (ops f) (mul (ops f) h h) e)

-- "n is odd, below 2 or above 64"
abbrev pub DegreeNotAllowed : ℕ → Type 0
DegreeNotAllowed m = (m % 2 ≡ 1) ⊎ (m < 2) ⊎ (64 < m)

-- "a coefficient is q or more"
abbrev pub TooLarge : FieldName → ℕ → Type 0
TooLarge f x = f.q ≤ x

module _ (w : List ℕ) where
  -- "1: fewer than 7 words, or word 0 isn't kind 1, or word 1 isn't kind 2"
  abbrev pub WrongHead : Type 0
  WrongHead = (length w < 7) ⊎ (kind_at w 0 ≢ 1) ⊎ (kind_at w 1 ≢ 2)

  -- "2: q isn't an odd prime below 4,096"
  abbrev pub WrongPrime : Type 0
  WrongPrime = ¬ AllowedPrime (q w)

  -- "3: n is odd, below 2 or above 64"
  abbrev pub WrongDegree : Type 0
  WrongDegree = DegreeNotAllowed (n w)

  -- a word after the first two has another kind than n+1 coefficients, the budget and the end have, in this
  -- order
  abbrev pub WrongKind : Type 0
  WrongKind = ((i : ℕ) × (2 ≤ i) × (i ≤ n w + 2) × (kind_at w i ≢ 3)) ⊎ (kind_at w (n w + 3) ≢ 4) ⊎ (kind_at w (n w + 4) ≢ 15)

  -- "4: not n+5 words in all, or a later word has the wrong kind, or the end word isn't n+4"
  abbrev pub WrongLayout : Type 0
  WrongLayout = (length w ≢ n w + 5) ⊎ WrongKind ⊎ (value_at w (n w + 4) ≢ n w + 4)

  -- "5: a coefficient is q or more"
  abbrev pub WrongCoefficient : Type 0
  WrongCoefficient = (i : ℕ) × (i ≤ n w) × TooLarge (field w) (coefficient w i)

  -- "6: the coefficient of x^n isn't 1"
  abbrev pub WrongLead : Type 0
  WrongLead = coefficient w (n w) ≢ 1

  -- "7: the square of some polynomial of degree 1 or more divides D"
  abbrev pub NotSquarefree : Type 0
  NotSquarefree = SquareDivides (field w) (D w)

-- sentence k applies to the words
unfoldable pub Applies : ℕ → List ℕ → Type 0
Applies k w = get_or (⊥ ∷ WrongHead w ∷ WrongPrime w ∷ WrongDegree w ∷ WrongLayout w ∷ WrongCoefficient w ∷ WrongLead w ∷ NotSquarefree w ∷ []) k ⊥
