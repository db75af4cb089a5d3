-- The unit's lists are the only ones: four lists that hold p_{m−1} and s_{m−1} over the leading coefficient of
-- p_{m−1}, 0 and 0 in places 0 to R and keep what they had after are the lists at exit.
use Rattle.std.specs.Prelude.{ℕ, ◌≡◌, List}
use Rattle.spec_definitions.specs.Ticket.{ticket_of}
use Rattle.spec_definitions.specs.Answers.{found, said}
use Rattle.spec_definitions.specs.Units.{Lists, unit_answer}
use Rattle.spec_answers.specs.Units.{UnitWritten}

abbrev pub UnitOnly : Type 0
UnitOnly = (w : List ℕ) (l : Lists) (R m c : ℕ) → (unit_answer w l).says ≡ said (found R m c) → (new : Lists) → UnitWritten (ticket_of w) R m l new → new ≡ (unit_answer w l).lists
