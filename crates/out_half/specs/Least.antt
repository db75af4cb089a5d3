-- T3 of an answer of half the walk as plain numbers: what they say of every p and s with s ≠ 0 and p² − D·s² a
-- nonzero constant.
use Rattle.std.specs.Prelude.{ℕ, ◌*◌, ◌<◌, ◌≡◌, List}
use Rattle.spec_arithmetic.specs.Field.{ops}
use Rattle.spec_arithmetic.specs.Polynomials.{deg}
use Rattle.spec_definitions.specs.Ticket.{ticket_of}
use Rattle.spec_definitions.specs.Walk.{unit_of, constant_of, degree_before}
use Rattle.spec_definitions.specs.Answers.{root_of}
use Rattle.spec_demands.specs.LeastDegree.{Solves, LeastFound}

-- the ticket of the words w: where the number is 0, the unit of index `second` has the least degree, `first`;
-- where it is 11, every solution's degree is above `second`, and above deg p_{2·first − 1}
pub record LeastHalfPlain (w : List ℕ) (number first second : ℕ) : Type 0 where
  pub if_found : number ≡ 0 → LeastFound (ticket_of w).field (ticket_of w).D (unit_of (ops (ticket_of w).field) (ticket_of w).D (root_of (ticket_of w)) second) first (constant_of (ops (ticket_of w).field) (ticket_of w).D (root_of (ticket_of w)) second)
  pub if_spent : number ≡ 11 → (p s : List ℕ) → Solves (ticket_of w).field (ticket_of w).D p s → (second < deg (ops (ticket_of w).field) p) × (degree_before (ops (ticket_of w).field) (ticket_of w).D (root_of (ticket_of w)) (2 * first) < deg (ops (ticket_of w).field) p)
