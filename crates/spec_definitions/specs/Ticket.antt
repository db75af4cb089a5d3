-- The job ticket: what its words say, and the ordered refusals 1 to 7 of any list of words.
use Rattle.std.specs.Prelude.{ℕ, ◌+◌, ◌*◌, ◌-◌, ◌/◌, ◌%◌, Bool, true, false, not, ◌||◌, List, [], ◌∷◌, ◌++◌, map, ltb, eqb, length, get_or, take, drop, replicate}
use Rattle.spec_arithmetic.specs.Field.{FieldName, prime, ops, fits}
use Rattle.spec_arithmetic.specs.Polynomials.{size, gcd, derivative}
use Rattle.spec_arithmetic.specs.Primes.{odd_prime}
use Rattle.spec_arithmetic.specs.Words.{values, kind, value, word, same, some_not, one_of}

-- the ticket is the job record: which field, which D, and how many steps at most "kind 1: q; kind 2: n; kind
-- 3, n+1 words: the coefficients of D, constant term first; kind 4: the step budget b"
pub record Ticket : Type 0 where
  pub field : FieldName
  pub n : ℕ
  pub D : List ℕ
  pub b : ℕ

-- "kind 4: the step budget b, 0 to 268,435,455": the number of budgets, which are the values of a word
abbrev pub budgets : ℕ
budgets = values

-- 2^33: the degree at an index below `budgets` is at most this, since each step adds at most g + 1 ≤ 32
abbrev pub degrees : ℕ
degrees = 32 * budgets

-- the ticket of the parts
abbrev pub ticket : FieldName → ℕ → List ℕ → ℕ → Ticket
ticket f n D b = record { field = f; n = n; D = D; b = b }

-- its words: "kind 1: q; kind 2: n; kind 3, n+1 words: the coefficients of D, constant term first; kind 4: the
-- step budget b", and the end word, n+4
abbrev pub ticket_words : Ticket → List ℕ
ticket_words t = word 1 t.field.q ∷ word 2 t.n ∷ map (word 3) t.D ++ (word 4 t.b ∷ word 15 (t.n + 4) ∷ [])

-- "Here g = n/2 − 1."
unfoldable pub genus : ℕ → ℕ
genus n = n / 2 - 1

-- what the words say, in order, whatever their kinds
unfoldable pub ticket_of : List ℕ → Ticket
ticket_of w =
    let n : ℕ = value (get_or w 1 0) in
    ticket (prime (value (get_or w 0 0))) n (map value (take (n + 1) (drop 2 w))) (value (get_or w (n + 3) 0))

-- "1: fewer than 7 words, or word 0 isn't kind 1, or word 1 isn't kind 2": the kinds that word 0 may have are
-- given
unfoldable pub wrong_head : List ℕ → List ℕ → Bool
wrong_head kinds w = ltb (length w) 7 || not (one_of kinds (kind (get_or w 0 0))) || not (eqb (kind (get_or w 1 0)) 2)

-- "2: q isn't an odd prime below 4,096"
unfoldable pub wrong_prime : ℕ → Bool
wrong_prime q = not (odd_prime q)

-- "3: n is odd, below 2 or above 64"
unfoldable pub wrong_degree : ℕ → Bool
wrong_degree n = not (eqb (n % 2) 0) || ltb n 2 || ltb 64 n

-- the kinds of the words after the first two: n+1 coefficients, the budget, the end
unfoldable pub later_kinds : ℕ → List ℕ
later_kinds n = replicate (n + 1) 3 ++ (4 ∷ 15 ∷ [])

-- "4: not n+5 words in all, or a later word has the wrong kind, or the end word isn't n+4"
unfoldable pub wrong_layout : ℕ → List ℕ → Bool
wrong_layout n w = not (eqb (length w) (n + 5)) || not (same (map kind (drop 2 w)) (later_kinds n)) || not (eqb (value (get_or w (n + 4) 0)) (n + 4))

-- "5: a coefficient is q or more"
unfoldable pub wrong_coefficient : FieldName → List ℕ → Bool
wrong_coefficient f D = some_not (fits f) D

-- "6: the coefficient of x^n isn't 1"
unfoldable pub wrong_lead : ℕ → List ℕ → Bool
wrong_lead n D = not (eqb (get_or D n 0) 1)

-- "7: the square of some polynomial of degree 1 or more divides D": that is so exactly where gcd(D, D') is
-- not constant
unfoldable pub not_squarefree : FieldName → List ℕ → Bool
not_squarefree f D = not (eqb (size (ops f) (gcd (ops f) D (derivative (ops f) D))) 1)

-- the number of the first test that applies, 0 where none does
unfoldable pub first_of : List (ℕ × Bool) → ℕ
first_of [] = 0
first_of (t ∷ l) = elim t.1 [ true ↦ t.0 | false ↦ first_of l ]

-- "Tested in this order; the first that applies is returned."
unfoldable pub tests_of : Ticket → List ℕ → List (ℕ × Bool)
tests_of t w =
    (1, wrong_head (1 ∷ []) w)
    ∷ (2, wrong_prime t.field.q)
    ∷ (3, wrong_degree t.n)
    ∷ (4, wrong_layout t.n w)
    ∷ (5, wrong_coefficient t.field t.D)
    ∷ (6, wrong_lead t.n t.D)
    ∷ (7, not_squarefree t.field t.D)
    ∷ []

unfoldable pub refusal_of : List ℕ → ℕ
refusal_of w = first_of (tests_of (ticket_of w) w)
