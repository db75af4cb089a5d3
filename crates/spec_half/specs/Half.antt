-- R-2, half the walk: where the call stops, the quasi-period and the regulator that it tells there, and its
-- answer to any list of words.
use Rattle.std.specs.Prelude.{ℕ, zero, suc, ◌+◌, ◌*◌, Bool, true, false, List, [], ◌∷◌, eqb}
use Rattle.std.proofs.Math.Option.{Option, none, some}
use Rattle.spec_arithmetic.specs.Field.{Ops}
use Rattle.spec_arithmetic.specs.Polynomials.{sub, size, deg, monic}
use Rattle.spec_definitions.specs.Ticket.{Ticket, ticket_of, refusal_of}
use Rattle.spec_definitions.specs.Walk.{Q, P, a, degree_before}
use Rattle.spec_definitions.specs.Answers.{Said, ops_of, root_of}

-- where the call stops: at i by the test of Q, or at i by the test of P
pub data Middle : Type 0 where
  by_q : ℕ → Middle
  by_p : ℕ → Middle

-- "giving m = 2i+1", "giving m = 2i+2"
unfoldable pub middle_period : Middle → ℕ
middle_period (by_q i) = 2 * i + 1
middle_period (by_p i) = 2 * i + 2

-- x and y are the same polynomial
unfoldable pub equal? : {A : Type 0} → Ops A → List A → List A → Bool
equal? o x y = eqb (size o (sub o x y)) 0

module _ {A : Type 0} (o : Ops A) (D d : List A) where
  -- "Q_{i+1} is a constant times Q_i": made monic they are the same, as no Q is 0
  unfoldable pub middle_q? : ℕ → Bool
  middle_q? i = equal? o (monic o (Q o D d (suc i))) (monic o (Q o D d i))

  -- "P_{i+1} = P_{i+2}"
  unfoldable pub middle_p? : ℕ → Bool
  middle_p? i = equal? o (P o D d (suc i)) (P o D d (suc (suc i)))

  -- "stops at the first i from 0 up where Q_{i+1} is a constant times Q_i, .. or else where P_{i+1} = P_{i+2}":
  -- from i up, among k indices
  unfoldable pub first_middle : ℕ → ℕ → Option Middle
  first_middle zero i = none
  first_middle (suc k) i =
      elim (middle_q? i) [
        | true ↦ some (by_q i)
        | false ↦ elim (middle_p? i) [ true ↦ some (by_p i) | false ↦ first_middle k (suc i) ]
      ]

  -- source 003, (4.6): A_{i+1} = deg a_1 + .. + deg a_i
  unfoldable pub degrees_to : ℕ → ℕ
  degrees_to zero = 0
  degrees_to (suc i) = degrees_to i + deg o (a o D d (suc i))

  -- "R comes from the duplication rules of source document 003, section 4": Corollary 4.11, R = 2·A_{i+1} +
  -- deg √D where the test of Q holds, with deg √D = deg d, and R = 2·A_{i+2} + deg Q_{i+1} where that of P does
  unfoldable pub middle_regulator : Middle → ℕ
  middle_regulator (by_q i) = 2 * degrees_to i + deg o d
  middle_regulator (by_p i) = 2 * degrees_to (suc i) + deg o (Q o D d (suc i))

-- "a found answer is R and m", "A spent answer carries b and deg p_{b−1}"; or refused with its number
pub data HalfOutcome : Type 0 where
  half_found : ℕ → ℕ → HalfOutcome
  half_spent : ℕ → ℕ → HalfOutcome
  half_refused : ℕ → HalfOutcome

-- document 01's number for each case, with the request's values
unfoldable pub half_said : HalfOutcome → Said
half_said (half_found R m) = record { number = 0; values = R ∷ m ∷ [] }
half_said (half_spent k e) = record { number = 11; values = k ∷ e ∷ [] }
half_said (half_refused j) = record { number = j; values = [] }

-- "It counts one step for each i tried.": a budget b is b indices from 0 up
unfoldable pub half_of : Ticket → HalfOutcome
half_of t =
    elim (first_middle (ops_of t) t.D (root_of t) t.b 0) [
      | none ↦ half_spent t.b (degree_before (ops_of t) t.D (root_of t) t.b)
      | some x ↦ half_found (middle_regulator (ops_of t) t.D (root_of t) x) (middle_period x)
    ]

-- the refusal of the words, or the outcome of their ticket
unfoldable pub words_half : List ℕ → HalfOutcome
words_half w = elim (refusal_of w) [ zero ↦ half_of (ticket_of w) | suc k ↦ half_refused (suc k) ]

-- the call `half`
unfoldable pub half_answer : List ℕ → Said
half_answer w = half_said (words_half w)
