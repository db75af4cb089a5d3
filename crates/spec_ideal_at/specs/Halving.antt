-- R-5, the ideal at or below a distance: the halving that builds it, and the answer of the call `ideal_at` to
-- any list of words and any y.
use Rattle.std.specs.Prelude.{ℕ, zero, suc, ◌+◌, ◌*◌, ◌-◌, ◌/◌, true, false, List, [], leb, ltb, eqb, nat_abs}
use Rattle.spec_arithmetic.specs.Polynomials.{deg}
use Rattle.spec_definitions.specs.Ticket.{Ticket, genus, ticket_of, refusal_of}
use Rattle.spec_definitions.specs.Walk.{Ideal, next, walk}
use Rattle.spec_definitions.specs.Answers.{ops_of, root_of}
use Rattle.spec_definitions.specs.Listing.{ideal_of}
use Rattle.spec_definitions.specs.Products.{GiantStepAnswer, farthest, giant_done}

-- an ideal, Q monic and P modulo it, with its distance
pub record IdealAt : Type 0 where
  pub ideal : Ideal ℕ
  pub distance : ℕ

module _ (t : Ticket) where
  -- the first ideal of the walk, at the distance 0
  unfoldable pub first_ideal : IdealAt
  first_ideal = record { ideal = ideal_of (ops_of t) (walk (ops_of t) t.D (root_of t) 0); distance = 0 }

  -- "the distance of the next one in the walk": deg a = g + 1 − deg Q further
  unfoldable pub next_distance : IdealAt → ℕ
  next_distance x = x.distance + (suc (genus t.n) - deg (ops_of t) x.ideal.q)

  -- a single step: the walk's step, and its pair made monic and reduced
  unfoldable pub single_step : IdealAt → IdealAt
  single_step x = record { ideal = ideal_of (ops_of t) (next (ops_of t) t.D (root_of t) x.ideal); distance = next_distance x }

  -- "then single steps": as long as the next distance is at most y, within as many as the first number says
  unfoldable pub single_steps : ℕ → ℕ → IdealAt → IdealAt
  single_steps zero y x = x
  single_steps (suc k) y x = elim (leb (next_distance x) y) [ true ↦ single_steps k y (single_step x) | false ↦ x ]

  -- "a giant step with itself": its ideal, and its distance, which is not negative
  unfoldable pub doubled : IdealAt → IdealAt
  doubled x =
      let a : GiantStepAnswer = giant_done t x.ideal x.distance x.ideal x.distance in
      record { ideal = record { q = a.q; p = a.p }; distance = nat_abs a.distance }

  -- "the ideal for y comes from the one for y div 2 by a giant step with itself and then single steps": for 0
  -- it is the first. The first number says within how many halvings; 4g + 1 single steps are enough after
  -- each
  unfoldable pub ideal_in : ℕ → ℕ → IdealAt
  ideal_in zero y = first_ideal
  ideal_in (suc k) y =
      elim (eqb y 0) [
        | true ↦ first_ideal
        | false ↦ single_steps (4 * genus t.n + 1) y (doubled (ideal_in k (y / 2)))
      ]

  -- y halvings are enough
  unfoldable pub ideal_below : ℕ → IdealAt
  ideal_below y = ideal_in y y

-- "The answer is the ideal, its distance and the distance of the next one in the walk"
pub record IdealAtAnswer : Type 0 where
  pub number : ℕ
  pub q : List ℕ
  pub p : List ℕ
  pub distance : ℕ
  pub next : ℕ

unfoldable pub ideal_at_done : Ticket → ℕ → IdealAtAnswer
ideal_at_done t y = let x : IdealAt = ideal_below t y in record { number = 0; q = x.ideal.q; p = x.ideal.p; distance = x.distance; next = next_distance t x }

-- document 01: "A refusal returns its number ..; polynomials, f and distances in the same answer are then
-- zero."
unfoldable pub ideal_at_refused : ℕ → IdealAtAnswer
ideal_at_refused k = record { number = k; q = []; p = []; distance = 0; next = 0 }

-- the call `ideal_at`: "The budget has no effect. y is at most 2^40, else refusal 10, after the ticket's own
-- refusals."
unfoldable pub ideal_at_answer : List ℕ → ℕ → IdealAtAnswer
ideal_at_answer w y =
    elim (refusal_of w) [
      | zero ↦ elim (ltb farthest y) [ true ↦ ideal_at_refused 10 | false ↦ ideal_at_done (ticket_of w) y ]
      | suc k ↦ ideal_at_refused (suc k)
    ]
