-- R-7, the estimate of the class number: how many values of D are nonzero squares and non-squares, the fraction,
-- not reduced, the nearest whole number, and the answer of the call `estimate` to any list of words.
use Rattle.std.specs.Prelude.{ℕ, zero, suc, ◌+◌, ◌-◌, ◌*◌, ◌/◌, ◌^◌, Bool, true, false, not, ◌&&◌, ◌||◌, List, [], ◌∷◌, ltb, eqb}
use Rattle.spec_arithmetic.specs.Field.{Ops, FieldName, ops}
use Rattle.spec_definitions.specs.Ticket.{Ticket, genus, ticket_of, refusal_of}

-- "q is at most 13 and n at most 8."
abbrev pub most_elements : ℕ
most_elements = 13

abbrev pub most_degree : ℕ
most_degree = 8

-- the "value" of a polynomial at x: c_0 + x·(c_1 + x·(c_2 + ..))
unfoldable pub evaluate : {A : Type 0} → Ops A → List A → A → A
evaluate o [] x = o.zer
evaluate o (c ∷ l) x = o.add c (o.mul x (evaluate o l x))

module _ (f : FieldName) where
  -- z² is v for some z from 1 to k
  unfoldable pub some_root : ℕ → ℕ → Bool
  some_root zero v = false
  some_root (suc k) v = elim (eqb ((ops f).mul (suc k) (suc k)) v) [ true ↦ true | false ↦ some_root k v ]

  -- "a nonzero square": z² is v for some z ≠ 0
  unfoldable pub square? : ℕ → Bool
  square? v = some_root (f.q - 1) v

  -- "a non-square": neither 0 nor a nonzero square
  unfoldable pub non_square? : ℕ → Bool
  non_square? v = not ((ops f).zer? v) && not (square? v)

-- how many numbers below k pass a test
unfoldable pub count_below : (ℕ → Bool) → ℕ → ℕ
count_below p zero = 0
count_below p (suc k) = elim (p k) [ true ↦ suc (count_below p k) | false ↦ count_below p k ]

-- "Let a and t be the numbers of field elements at which D's value is a nonzero square and a non-square.": a
unfoldable pub squares_of : FieldName → List ℕ → ℕ
squares_of f D = count_below (λ x. square? f (evaluate (ops f) D x)) f.q

-- .. and t
unfoldable pub non_squares_of : FieldName → List ℕ → ℕ
non_squares_of f D = count_below (λ x. non_square? f (evaluate (ops f) D x)) f.q

-- "It is reported as q^(g+1+a+t) over (q−1)^(a+1)·(q+1)^t, not reduced": the numerator
unfoldable pub numerator_of : ℕ → ℕ → ℕ → ℕ → ℕ
numerator_of q g a t = q ^ (g + 1 + a + t)

-- .. and the denominator
unfoldable pub denominator_of : ℕ → ℕ → ℕ → ℕ
denominator_of q a t = (q - 1) ^ (a + 1) * (q + 1) ^ t

-- ".. and as the nearest whole number, an exact half going up": that to N over M
unfoldable pub nearest_of : ℕ → ℕ → ℕ
nearest_of N M = (2 * N + M) / (2 * M)

-- "15, q or n above these"
unfoldable pub too_large : Ticket → Bool
too_large t = ltb most_elements t.field.q || ltb most_degree t.n

pub record EstimateAnswer : Type 0 where
  pub number : ℕ
  pub numerator : ℕ
  pub denominator : ℕ
  pub nearest : ℕ

-- the fraction N over M, with its nearest whole number
unfoldable pub estimate_is : ℕ → ℕ → EstimateAnswer
estimate_is N M = record { number = 0; numerator = N; denominator = M; nearest = nearest_of N M }

unfoldable pub estimate_done : Ticket → EstimateAnswer
estimate_done t =
    let squares : ℕ = squares_of t.field t.D in
    let non_squares : ℕ = non_squares_of t.field t.D in
    estimate_is (numerator_of t.field.q (genus t.n) squares non_squares) (denominator_of t.field.q squares non_squares)

-- document 01: "A refusal returns its number ..; polynomials, f and distances in the same answer are then zero.":
-- so are these three
unfoldable pub estimate_refused : ℕ → EstimateAnswer
estimate_refused k = record { number = k; numerator = 0; denominator = 0; nearest = 0 }

-- the call `estimate`: the ticket's own refusals, then "15, q or n above these, after 7"
unfoldable pub estimate_answer : List ℕ → EstimateAnswer
estimate_answer w =
    elim (refusal_of w) [
      | zero ↦ elim (too_large (ticket_of w)) [ true ↦ estimate_refused 15 | false ↦ estimate_done (ticket_of w) ]
      | suc k ↦ estimate_refused (suc k)
    ]
