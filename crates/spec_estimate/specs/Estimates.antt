-- The demands for the estimate, for tickets of any words and any length. T1: the ticket's refusals, then 15 where q is
-- above 13 or n above 8; a refusal is all zeros. T2: a and t are how many values of D are nonzero squares and
-- non-squares, the fraction is the request's, which is E' of source 000, and the whole number is the nearest to it;
-- 64 bits hold it. No other answer is refused so and estimates so. T1 and T2 but for E' are proved here, E' in
-- Approximation, the last of these in Only.
use Rattle.std.specs.Prelude.{ℕ, suc, ◌+◌, ◌-◌, ◌*◌, ◌^◌, ◌≤◌, ◌<◌, ◌≡◌, ◌↔◌, ◌≢◌, ◌⊎◌, List}
use Rattle.math_counting.specs.HowMany.{HowMany}
use Rattle.spec_definitions.specs.Ticket.{Ticket, genus, ticket_of, refusal_of}
use Rattle.spec_sentences.specs.Arithmetic.{Divides}
use Rattle.spec_answers.specs.Refusals.{First, None}
use Rattle.spec_estimate.specs.Estimate.{EstimateAnswer, estimate_answer}
use Rattle.spec_estimate.specs.Values.{Value, linear, SquareModulo}
use Rattle.spec_estimate.specs.Squares.{Square, NonSquare}
use Rattle.spec_estimate.specs.Rounding.{Nearest}
use Rattle.spec_estimate.specs.Bounds.{Fits}
use Rattle.spec_estimate.specs.Ratios.{Ratio, ◌over◌, ◌times◌, power, SameValue}

-- ---- T1
-- "15, q or n above these": "q is at most 13 and n at most 8."
abbrev pub AboveThese : Ticket → Type 0
AboveThese t = (13 < t.field.q) ⊎ (8 < t.n)

-- "A refusal returns its number": the other three are zero
abbrev pub EstimateZero : EstimateAnswer → Type 0
EstimateZero r = (r.numerator ≡ 0) × (r.denominator ≡ 0) × (r.nearest ≡ 0)

-- ".. after 7". 0 is no refusal: it says that the estimate is there
pub record RefusedFirst (w : List ℕ) (r : EstimateAnswer) : Type 0 where
  pub number : (k : ℕ) → k ≢ 0 → (r.number ≡ k) ↔ (First k w ⊎ ((k ≡ 15) × None w × AboveThese (ticket_of w)))
  pub zeros : r.number ≢ 0 → EstimateZero r

abbrev pub T1Estimate : Type 0
T1Estimate = (w : List ℕ) → RefusedFirst w (estimate_answer w)

-- ---- T2
module _ (t : Ticket) where
  -- "D's value is a nonzero square" at e: some z ≠ 0 has z² = the value
  abbrev pub SquareAt : ℕ → Type 0
  SquareAt e = (v : ℕ) × Value t.field t.D e v × Square t.field.q v

  -- "and a non-square": no z has
  abbrev pub NonSquareAt : ℕ → Type 0
  NonSquareAt e = (v : ℕ) × Value t.field t.D e v × NonSquare t.field.q v

  -- the elements of the field are the numbers below q
  pub record Estimated (r : EstimateAnswer) : Type 0 where
    pub number : r.number ≡ 0
    -- "Let a and t be the numbers of field elements at which D's value is a nonzero square and a non-square."
    pub squares : ℕ
    pub squares_are : HowMany (λ e. (e < t.field.q) × SquareAt e) squares
    pub non_squares : ℕ
    pub non_squares_are : HowMany (λ e. (e < t.field.q) × NonSquareAt e) non_squares
    -- "It is reported as q^(g+1+a+t) over (q−1)^(a+1)·(q+1)^t, not reduced"
    pub numerator : r.numerator ≡ t.field.q ^ (genus t.n + 1 + squares + non_squares)
    pub denominator : r.denominator ≡ (t.field.q - 1) ^ (squares + 1) * (t.field.q + 1) ^ non_squares
    -- "and as the nearest whole number, an exact half going up"
    pub nearest : Nearest r.numerator r.denominator r.nearest

abbrev pub T2Estimate : Type 0
T2Estimate = (w : List ℕ) → refusal_of w ≡ 0 → (ticket_of w).field.q ≤ 13 → (ticket_of w).n ≤ 8 → Estimated (ticket_of w) (estimate_answer w)

-- no sum or product leaves 64 bits
abbrev pub T2Fits : Type 0
T2Fits = (w : List ℕ) → refusal_of w ≡ 0 → (ticket_of w).field.q ≤ 13 → (ticket_of w).n ≤ 8 → Fits (estimate_answer w).numerator (estimate_answer w).denominator

-- ---- T2: "E' of source document 000, section 5B, for w = 1"
module _ (t : Ticket) where
  -- q − χ(P), with Artin's symbol χ(P) = [D/P] for the polynomial P = x − e: 1 where P does not divide D and D is a
  -- square modulo P, −1 where D is no square modulo P, 0 where P divides D. The three exclude each other: where P
  -- divides D, D is 0² modulo P
  pub data QLessSymbol (e : ℕ) : ℕ → Type 0 where
    symbol_one : ¬ Divides t.field (linear t.field e) t.D → SquareModulo t.field t.D e → QLessSymbol e (t.field.q - 1)
    symbol_minus_one : ¬ SquareModulo t.field t.D e → QLessSymbol e (t.field.q + 1)
    symbol_zero : Divides t.field (linear t.field e) t.D → QLessSymbol e t.field.q

  -- the product of q / (q − χ(P)) over the P = x − e with e below k
  pub data FactorsBelow : ℕ → Ratio → Type 0 where
    start : FactorsBelow 0 (1 over 1)
    next : {k c : ℕ} {x : Ratio} → FactorsBelow k x → QLessSymbol k c → FactorsBelow (suc k) (x times (t.field.q over c))

  -- Source 000, section 5B: E'(w,D) is q^(g+1)/(q−1) times the product of F(ν,D) over ν from 1 to w, and F(ν,D) is the
  -- product of q^ν/(q^ν − χ(P)) over |P| = q^ν, which is (q^ν/(q^ν−1))^(s_ν) · (q^ν/(q^ν+1))^(t_ν). Here w is 1. "Note
  -- that each monic polynomial of degree 1 is prime.": these are the q polynomials x − e
  pub record Approximates (r : EstimateAnswer) (squares non_squares : ℕ) : Type 0 where
    pub factor : Ratio
    pub factors : FactorsBelow t.field.q factor
    pub factors_only : (x : Ratio) → FactorsBelow t.field.q x → x ≡ factor
    pub is : SameValue (r.numerator over r.denominator) ((t.field.q ^ (genus t.n + 1)) over (t.field.q - 1) times factor)
    -- the request's own form, multiplied as it stands: "E' = q^(g+1) / (q−1) times (q/(q−1))^a times (q/(q+1))^t."
    pub written : r.numerator over r.denominator ≡ (t.field.q ^ (genus t.n + 1)) over (t.field.q - 1) times power (t.field.q over (t.field.q - 1)) squares times power (t.field.q over (t.field.q + 1)) non_squares

abbrev pub T2Approximates : Type 0
T2Approximates = (w : List ℕ) → refusal_of w ≡ 0 → (ticket_of w).field.q ≤ 13 → (ticket_of w).n ≤ 8 → (x : Estimated (ticket_of w) (estimate_answer w)) → Approximates (ticket_of w) (estimate_answer w) x.squares x.non_squares

-- ---- no other answer is refused so and estimates so
abbrev pub EstimateOnly : Type 0
EstimateOnly = (w : List ℕ) (r : EstimateAnswer) → RefusedFirst w r → (refusal_of w ≡ 0 → (ticket_of w).field.q ≤ 13 → (ticket_of w).n ≤ 8 → Estimated (ticket_of w) r) → r ≡ estimate_answer w
