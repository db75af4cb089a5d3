-- T1, the part on pairs: the number that product and giant step give is that of the words' refusal, then 9
-- for a pair that is no ideal as described, then 10 for a distance, and 0 where none applies. The sentences
-- have no test in them; "dividing" is said with a factor.
use Rattle.std.specs.Prelude.{ℕ, suc, ◌<◌, ◌≡◌, ◌≢◌, ◌⊎◌, List, [], pos as posℤ, length, get_or}
use Rattle.spec_arithmetic.specs.Field.{FieldName, ops}
use Rattle.spec_arithmetic.specs.Polynomials.{size, lead, sub, mul}
use Rattle.spec_definitions.specs.Ticket.{Ticket, genus, ticket_of, refusal_of}
use Rattle.spec_definitions.specs.Walk.{Ideal}
use Rattle.spec_definitions.specs.Products.{ProductAnswer, GiantStepAnswer, product_answer, giant_answer, farthest}
use Rattle.spec_fields.specs.Named.{Ok}
use Rattle.spec_sentences.specs.Arithmetic.{Divides}

-- Q is monic, deg P < deg Q, and Q divides D − P²
pub record IsPair (f : FieldName) (D Q P : List ℕ) : Type 0 where
  pub monic : lead (ops f) Q ≡ 1
  pub less : size (ops f) P < size (ops f) Q
  pub divides : Divides f Q (sub (ops f) D (mul (ops f) P P))

-- "A pair is g+1 and g coefficients below q, Q monic, deg P < deg Q, Q dividing D − P²."
pub record GivenPair (t : Ticket) (x : Ideal ℕ) : Type 0 where
  pub q_length : length x.q ≡ suc (genus t.n)
  pub p_length : length x.p ≡ genus t.n
  pub q_below : (i : ℕ) → Ok t.field (get_or x.q i 0)
  pub p_below : (i : ℕ) → Ok t.field (get_or x.p i 0)
  pub is : IsPair t.field t.D x.q x.p

-- "9 (product and giant step): a pair has the wrong number of coefficients or isn't an ideal as described
-- below"
abbrev pub WrongPair : Ticket → Ideal ℕ → Ideal ℕ → Type 0
WrongPair t x y = (¬ GivenPair t x) ⊎ (¬ GivenPair t y)

-- "10 (giant step only): a distance is above 2^40"
abbrev pub WrongDistance : ℕ → ℕ → Type 0
WrongDistance d e = (farthest < d) ⊎ (farthest < e)

-- "polynomials, f and distances in the same answer are then zero"
abbrev pub ProductZero : ProductAnswer → Type 0
ProductZero r = (r.s ≡ []) × (r.q ≡ []) × (r.p ≡ [])

abbrev pub GiantZero : GiantStepAnswer → Type 0
GiantZero r = (r.q ≡ []) × (r.p ≡ []) × (r.f ≡ posℤ 0) × (r.distance ≡ posℤ 0)

-- "Tested in this order; the first that applies is returned.": the words' refusal, which T1 tells, then 9,
-- then 10
pub record PairRefusals (w : List ℕ) (x : Ideal ℕ) (d : ℕ) (y : Ideal ℕ) (e : ℕ) : Type 0 where
  pub words : refusal_of w ≢ 0 → ((product_answer w x y).number ≡ refusal_of w) × ((giant_answer w x d y e).number ≡ refusal_of w)
  pub pairs : refusal_of w ≡ 0 → WrongPair (ticket_of w) x y → ((product_answer w x y).number ≡ 9) × ((giant_answer w x d y e).number ≡ 9)
  pub distances : refusal_of w ≡ 0 → ¬ WrongPair (ticket_of w) x y → WrongDistance d e → (giant_answer w x d y e).number ≡ 10
  pub product_not_refused : refusal_of w ≡ 0 → ¬ WrongPair (ticket_of w) x y → (product_answer w x y).number ≡ 0
  pub giant_not_refused : refusal_of w ≡ 0 → ¬ WrongPair (ticket_of w) x y → ¬ WrongDistance d e → (giant_answer w x d y e).number ≡ 0
  pub product_zero : (product_answer w x y).number ≢ 0 → ProductZero (product_answer w x y)
  pub giant_zero : (giant_answer w x d y e).number ≢ 0 → GiantZero (giant_answer w x d y e)

abbrev pub T1Pairs : Type 0
T1Pairs = (w : List ℕ) (x : Ideal ℕ) (d : ℕ) (y : Ideal ℕ) (e : ℕ) → PairRefusals w x d y e
