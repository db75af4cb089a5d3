-- T3 of an answer as plain numbers, for the calls on a ticket: what the numbers say of every p and s with s ≠
-- 0 and p² − D·s² a nonzero constant.
use Rattle.std.specs.Prelude.{ℕ, ◌<◌, ◌≡◌}
use mathlib.Core.List.{List}
use Rattle.spec_arithmetic.specs.Field.{ops}
use Rattle.spec_arithmetic.specs.Polynomials.{deg}
use Rattle.spec_definitions.specs.Ticket.{ticket_of}
use Rattle.spec_definitions.specs.Walk.{Unit as UnitPair, unit_of}
use Rattle.spec_definitions.specs.Answers.{root_of}
use Rattle.spec_definitions.specs.Units.{Lists}
use Rattle.spec_demands.specs.LeastDegree.{Solves, LeastFound}
use Rattle.spec_demands.specs.Written.{unit_in}

-- the ticket of the words w: where the number is 0, the unit u has the least degree, `first`, and the norm
-- `third`; where it is 11, every solution's degree is above `second`
pub record LeastNumbers (w : List ℕ) (u : UnitPair ℕ) (number first second third : ℕ) : Type 0 where
  pub if_found : number ≡ 0 → LeastFound (ticket_of w).field (ticket_of w).D u first third
  pub if_spent : number ≡ 11 → (p s : List ℕ) → Solves (ticket_of w).field (ticket_of w).D p s → second < deg (ops (ticket_of w).field) p

-- the unit is that of the index `second`
abbrev pub LeastPlain : List ℕ → ℕ → ℕ → ℕ → ℕ → Type 0
LeastPlain w number first second third = LeastNumbers w (unit_of (ops (ticket_of w).field) (ticket_of w).D (root_of (ticket_of w)) second) number first second third

-- the unit is read from places 0 to `first` of the first two lists
abbrev pub LeastInLists : List ℕ → Lists → ℕ → ℕ → ℕ → ℕ → Type 0
LeastInLists w l number first second third = LeastNumbers w (unit_in first l) number first second third
