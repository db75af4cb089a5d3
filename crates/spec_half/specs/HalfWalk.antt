-- The demands for half the walk, for tickets of any words and any length. T1: it is refused as every ticket
-- is. T2: it stops at the first i below b that the request names, with its m and R; it finds exactly where the
-- quasi-period is at most 2b, with the R and m of the full walk of any budget, and is spent where it is not.
-- T3: what is found is least; where it is spent, no solution has a p of degree up to deg p_{2b−1}, which the
-- call does not reach. No other outcome satisfies T1 and T2.
use Prim.Native.Nat.{ℕ, suc, ◌+◌, ◌*◌, ◌≤◌, ◌<◌}
use Rattle.std.specs.Prelude.{◌≡◌, ◌↔◌, ◌≢◌, ◌⊎◌}
use mathlib.Core.List.{List}
use Rattle.spec_arithmetic.specs.Field.{FieldName, Ops, ops}
use Rattle.spec_arithmetic.specs.Polynomials.{deg, scale, root}
use Rattle.spec_definitions.specs.Ticket.{Ticket, ticket, genus, ticket_of, refusal_of}
use Rattle.spec_definitions.specs.Walk.{degree_before, unit_of, constant_of}
use Rattle.spec_definitions.specs.Walk as walk
use Rattle.spec_definitions.specs.Answers.{Outcome, found, spent, refused, Said, ops_of, root_of, outcome_of}
use Rattle.spec_fields.specs.Named.{Ok}
use Rattle.spec_laws.specs.Admitted.{Admitted}
use Rattle.spec_sentences.specs.Sentences.{Same}
use Rattle.spec_demands.specs.Continued.{sum_to}
use Rattle.spec_demands.specs.LeastDegree.{Solves, LeastFound}
use Rattle.spec_expansion.specs.QuasiPeriod.{IsQuasiPeriod}
use Rattle.spec_answers.specs.Refusals.{First}
use Rattle.spec_answers.specs.Outcomes.{degree_at}
use Rattle.spec_half.specs.Half.{HalfOutcome, half_found, half_spent, half_refused, half_said, words_half, half_answer}

-- x is a constant times y, and the constant is not 0
pub record ConstantTimes (f : FieldName) (x y : List ℕ) : Type 0 where
  pub k : ℕ
  pub positive : 0 < k
  pub below : Ok f k
  pub is : Same f x (scale (ops f) k y)

-- the same ticket with another budget
abbrev pub with_budget : ℕ → Ticket → Ticket
with_budget b t = ticket t.field t.n t.D b

-- ---- T1: "the first that applies is returned": the words' refusals 1 to 7, and no others
abbrev pub RefusedFirst : List ℕ → Said → Type 0
RefusedFirst w says = (k : ℕ) → (says ≡ half_said (half_refused k)) ↔ First k w

abbrev pub T1Half : Type 0
T1Half = (w : List ℕ) → RefusedFirst w (half_answer w)

-- ---- T2
module _ (t : Ticket) where
  abbrev Q : ℕ → List ℕ
  Q = walk.Q (ops_of t) t.D (root_of t)

  abbrev P : ℕ → List ℕ
  P = walk.P (ops_of t) t.D (root_of t)

  -- deg a_1 + .. + deg a_i
  abbrev pub degrees_of_quotients : ℕ → ℕ
  degrees_of_quotients = sum_to (λ j. deg (ops_of t) (walk.a (ops_of t) t.D (root_of t) j))

  -- "Q_{i+1} is a constant times Q_i", "P_{i+1} = P_{i+2}"
  abbrev pub MiddleQ : ℕ → Type 0
  MiddleQ i = ConstantTimes t.field (Q (suc i)) (Q i)

  abbrev pub MiddleP : ℕ → Type 0
  MiddleP i = Same t.field (P (suc i)) (P (suc (suc i)))

  -- neither holds at an index before i
  abbrev pub NoneBefore : ℕ → Type 0
  NoneBefore i = (j : ℕ) → j < i → (¬ MiddleQ j) × (¬ MiddleP j)

  -- "stops at the first i from 0 up where Q_{i+1} is a constant times Q_i, giving m = 2i+1, or else where
  -- P_{i+1} = P_{i+2}, giving m = 2i+2. R comes from the duplication rules of source document 003, section 4":
  -- 2·(deg a_1 + .. + deg a_i) + deg d, or 2·(deg a_1 + .. + deg a_{i+1}) + deg Q_{i+1}. "It counts one step
  -- for each i tried": i is below b
  pub record StopsFirst (R m : ℕ) : Type 0 where
    pub i : ℕ
    pub tried : i < t.b
    pub before : NoneBefore i
    pub here :
        (MiddleQ i × (m ≡ 2 * i + 1) × (R ≡ 2 * degrees_of_quotients i + deg (ops_of t) (root_of t)))
        ⊎ ((¬ MiddleQ i) × MiddleP i × (m ≡ 2 * i + 2) × (R ≡ 2 * degrees_of_quotients (suc i) + deg (ops_of t) (Q (suc i))))

  -- "A spent answer carries b and deg p_{b−1}": every i below b is tried
  pub record TriesAll (k e : ℕ) : Type 0 where
    pub all : NoneBefore t.b
    pub steps : k ≡ t.b
    pub reached : e ≡ degree_at t t.b

  abbrev pub HalfEnds : HalfOutcome → Type 0
  HalfEnds (half_found R m) = StopsFirst R m
  HalfEnds (half_spent k e) = TriesAll k e
  HalfEnds (half_refused j) = ⊥

  -- "with the same R and m as the full walk": what half the walk says where the full walk of twice its budget
  -- has this outcome
  abbrev pub halved : Outcome → HalfOutcome
  halved (found R m c) = half_found R m
  halved (spent k e) = half_spent t.b (degree_at t t.b)
  halved (refused j) = half_refused j

  pub record SameAsFull (x : HalfOutcome) : Type 0 where
    pub twice : x ≡ halved (outcome_of (with_budget (2 * t.b) t))
    -- and beside a full walk of any budget B that finds
    pub finds : (B R m c : ℕ) → outcome_of (with_budget B t) ≡ found R m c → m ≤ 2 * t.b → x ≡ half_found R m
    pub spends : (B R m c : ℕ) → outcome_of (with_budget B t) ≡ found R m c → 2 * t.b < m → x ≡ half_spent t.b (degree_at t t.b)

  -- what is said of a ticket with the quasi-period m
  pub record HalfFoundOrSpent (m : ℕ) (says : Said) : Type 0 where
    -- "It finds whenever m is at most twice the budget, .. and is spent otherwise", and only then
    pub within : (m ≤ 2 * t.b) ↔ (says ≡ half_said (half_found (degree_at t m) m))
    pub beyond : (2 * t.b < m) ↔ (says ≡ half_said (half_spent t.b (degree_at t t.b)))
    -- nothing else is said: one of the two, these numbers and no others, and no refusal
    pub either : (says ≡ half_said (half_found (degree_at t m) m)) ⊎ (says ≡ half_said (half_spent t.b (degree_at t t.b)))
    pub found_only : (R k : ℕ) → says ≡ half_said (half_found R k) → (R ≡ degree_at t m) × (k ≡ m)
    pub spent_only : (k e : ℕ) → says ≡ half_said (half_spent k e) → (k ≡ t.b) × (e ≡ degree_at t t.b)
    pub never_refused : (j : ℕ) → says ≢ half_said (half_refused j)

-- past the refusals; the quasi-period is the ticket's own, whatever the budget
abbrev pub HalfWalks : List ℕ → Said → Type 0
HalfWalks w says = refusal_of w ≡ 0 → (m : ℕ) × IsQuasiPeriod (ticket_of w) m × HalfFoundOrSpent (ticket_of w) m says

pub record HalfRight (w : List ℕ) : Type 0 where
  pub ends : refusal_of w ≡ 0 → HalfEnds (ticket_of w) (words_half w)
  pub same : refusal_of w ≡ 0 → SameAsFull (ticket_of w) (words_half w)
  pub walks : HalfWalks w (half_answer w)

abbrev pub T2Half : Type 0
T2Half = (w : List ℕ) → HalfRight w

-- ---- T3
-- what an outcome says of every solution: the unit of index m has the least degree R; "users rely on there
-- being no solution p, s (s not zero, p² − D·s² a nonzero constant) with p of degree up to deg p_{2b−1}", nor,
-- with that, up to the degree in the answer
abbrev pub LeastHalfIn : FieldName → List ℕ → List ℕ → HalfOutcome → Type 0
LeastHalfIn f D d (half_found R m) = LeastFound f D (unit_of (ops f) D d m) R (constant_of (ops f) D d m)
LeastHalfIn f D d (half_spent k e) = (p s : List ℕ) → Solves f D p s → (e < deg (ops f) p) × (degree_before (ops f) D d (2 * k) < deg (ops f) p)
LeastHalfIn f D d (half_refused j) = Unit

abbrev pub LeastHalf : List ℕ → HalfOutcome → Type 0
LeastHalf w x = LeastHalfIn (ticket_of w).field (ticket_of w).D (root_of (ticket_of w)) x

abbrev pub T3Half : Type 0
T3Half = (w : List ℕ) → LeastHalf w (words_half w)

-- ---- 0 and 11 say found and spent: no refusal has either of them
pub record HalfNumbered (x : HalfOutcome) : Type 0 where
  pub not_zero : x ≢ half_refused 0
  pub not_eleven : x ≢ half_refused 11

abbrev pub T1HalfNumbers : Type 0
T1HalfNumbers = (w : List ℕ) (x : HalfOutcome) → half_answer w ≡ half_said x → HalfNumbered x

-- ---- no other outcome is refused so and walks so
abbrev pub HalfOnly : Type 0
HalfOnly = (w : List ℕ) (x : HalfOutcome) → RefusedFirst w (half_said x) → HalfWalks w (half_said x) → x ≡ words_half w

-- ---- for a ticket whose D is admitted
module _ (t : Ticket) (h : Admitted t.field (genus t.n) t.D) where
  abbrev o : Ops ℕ
  o = ops_of t

  abbrev D : List ℕ
  D = t.D

  abbrev d : List ℕ
  d = root o D (suc (genus t.n))

  abbrev b : ℕ
  b = t.b
