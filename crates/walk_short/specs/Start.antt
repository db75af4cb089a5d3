-- What a contract says of a step's start: the quotient of P + d by Q, its remainder, the next Q.
use Rattle.std.specs.Prelude.{List, ℕ}
use Rattle.base_field.specs.Named.{name}
use Rattle.walk_short.specs.declared.Step.{Step}
use Rattle.walk_short.specs.declared.Divided.{Divided}
use Rattle.walk_short.specs.Step.{step_quo, next_rem, next_q, Division, division, Moved, Stepped}

abbrev pub quo : Step → List ℕ
quo s = step_quo (name s.field) s.twice.now s.current.now s.rest.now

-- the same of its division alone
abbrev pub quotient_of : Divided → List ℕ
quotient_of d = step_quo (name d.field) d.twice.now d.current.now d.rest.now

-- the next remainder
abbrev pub rem : Step → List ℕ
rem s = next_rem (name s.field) s.twice.now s.current.now s.rest.now

abbrev pub after : Step → List ℕ
after s = next_q (name s.field) s.twice.now s.before.now s.current.now s.rest.now

-- the division that it starts with
pub divided : (s : Step) → Division (name s.field) s.top s.size s.twice.now s.current.now s.rest.now
divided s = division s.ready

-- it leads to this remainder and this Q
abbrev pub Leads : Step → List ℕ → List ℕ → Type 0
Leads s remains q = Moved (name s.field) s.twice.now s.before.now s.current.now s.rest.now remains q

-- the same, and the Q has k coefficients
abbrev pub SteppedFrom : Step → List ℕ → List ℕ → ℕ → Type 0
SteppedFrom s remains q k = Stepped (name s.field) s.twice.now s.before.now s.current.now s.rest.now remains q k
