-- The giant step's answer is the only one: there is one first reduced index k, and with it one ideal, f and
-- distance. First for any polynomials that meet document 01's equations of a step, then for the definitions'
-- steps, as `demands` states them. For a ticket past its refusals, two pairs as document 01 describes them
-- and distances of at most 2^40.
use Rattle.std.specs.Prelude.{ℕ, suc, ◌+◌, ◌≤◌, ◌<◌, ◌≡◌, List, pos as posℤ, ◌+ℤ◌, ◌-ℤ◌}
use Rattle.spec_arithmetic.specs.Polynomials.{size, deg, lead, add, scale, mul}
use Rattle.spec_definitions.specs.Ticket.{Ticket, genus, ticket_of, refusal_of}
use Rattle.spec_definitions.specs.Walk.{Ideal}
use Rattle.spec_definitions.specs.Answers.{ops_of}
use Rattle.spec_definitions.specs.Products.{GiantStepAnswer, product_answer, giant_answer}
use Rattle.spec_sentences.specs.Sentences.{Same}
use Rattle.spec_sentences.specs.Operations.{Trimmed}
use Rattle.spec_refusals.specs.Pairs.{GivenPair, WrongDistance}
use Rattle.spec_demands.specs.Continued.{sum_to, RootOf}
use Rattle.spec_demands.specs.Products.{Steps}
use Rattle.spec_uniqueness.specs.Walk.{Stepping}

-- "starting with this (Q, P) as (Q_0, P_0), the walk's step is repeated until the first k from 0 up with deg
-- Q_k at most g. The answer is that ideal, Q_k monic, P_k mod it, with f and the two distances' sum plus f",
-- "f = deg Q_k − deg Q + (sum of deg a_j, j from 1 to k) − deg S": here S and the pair s are the product's,
-- and d and e the distances
pub record GiantStepOf (t : Ticket) (d e : ℕ) (S : List ℕ) (s : Ideal ℕ) (r : GiantStepAnswer) : Type 0 where
  pub number : r.number ≡ 0
  -- k + 1 steps from s, the last for a_k
  pub k : ℕ
  pub root : List ℕ
  pub is_root : RootOf t.field (genus t.n) t.D root
  pub Q : ℕ → List ℕ
  pub P : ℕ → List ℕ
  pub a : ℕ → List ℕ
  pub Q_first : Same t.field (Q 0) s.q
  pub P_first : Same t.field (P 0) s.p
  pub stepping : Stepping t.field t.D root (suc k) Q P a
  -- the k-th is the first that is reduced
  pub reduced : deg (ops_of t) (Q k) ≤ genus t.n
  pub first : (j : ℕ) → j < k → genus t.n < deg (ops_of t) (Q j)
  -- the answer's Q is c·Q_k, and its P is P_k less a multiple m of it
  pub c : ℕ
  pub Q_is : Same t.field r.q (scale (ops_of t) c (Q k))
  pub Q_monic : lead (ops_of t) r.q ≡ 1
  pub Q_trimmed : Trimmed t.field r.q
  pub m : List ℕ
  pub P_is : Same t.field (P k) (add (ops_of t) (mul (ops_of t) m r.q) r.p)
  pub P_less : size (ops_of t) r.p < size (ops_of t) r.q
  pub P_trimmed : Trimmed t.field r.p
  pub f_is : r.f ≡ posℤ (deg (ops_of t) (Q k)) -ℤ posℤ (deg (ops_of t) s.q) +ℤ posℤ (sum_to (λ j. deg (ops_of t) (a j)) k) -ℤ posℤ (deg (ops_of t) S)
  pub distance : r.distance ≡ posℤ (d + e) +ℤ r.f

-- for a ticket, two pairs and two distances that are not refused
abbrev Given : ((w : List ℕ) (x : Ideal ℕ) (d : ℕ) (y : Ideal ℕ) (e : ℕ) → Type 0) → Type 0
Given C = (w : List ℕ) → refusal_of w ≡ 0 → (x y : Ideal ℕ) → GivenPair (ticket_of w) x → GivenPair (ticket_of w) y → (d e : ℕ) → ¬ WrongDistance d e → C w x d y e

abbrev pub OneGiantStep : Type 0
OneGiantStep = Given (λ w x d y e. (r : GiantStepAnswer) → GiantStepOf (ticket_of w) d e (product_answer w x y).s (record { q = (product_answer w x y).q; p = (product_answer w x y).p }) r → r ≡ giant_answer w x d y e)

-- the definition's answer is one
abbrev pub GiantStepIs : Type 0
GiantStepIs = Given (λ w x d y e. GiantStepOf (ticket_of w) d e (product_answer w x y).s (record { q = (product_answer w x y).q; p = (product_answer w x y).p }) (giant_answer w x d y e))

-- as `demands` states it, of the definitions' steps
abbrev pub OneGiantStepOfSteps : Type 0
OneGiantStepOfSteps = Given (λ w x d y e. (r : GiantStepAnswer) → Steps (ticket_of w) x d y e (product_answer w x y).s (record { q = (product_answer w x y).q; p = (product_answer w x y).p }) r → r ≡ giant_answer w x d y e)
