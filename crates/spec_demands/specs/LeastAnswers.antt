-- T3 of every answer that says found or spent. The call `regulator` says the outcome of the words, which is
-- what T3 is about; here are the calls `listing` and `unit`. They say the same outcome, except that found
-- becomes a refusal where a lent list is too short.
use Rattle.std.specs.Prelude.{ℕ, ◌≡◌, List}
use Rattle.spec_definitions.specs.Ticket.{ticket_of}
use Rattle.spec_definitions.specs.Answers.{Outcome, found, spent, refused, said}
use Rattle.spec_definitions.specs.Units.{Lists, unit_answer}
use Rattle.spec_definitions.specs.Listing.{listing_answer}
use Rattle.spec_demands.specs.LeastDegree.{LeastFound, Least}
use Rattle.spec_demands.specs.Written.{unit_in}

-- T3 of the outcome that the call `listing` says
abbrev pub T3Listing : Type 0
T3Listing = (w l : List ℕ) (x : Outcome) → (listing_answer w l).says ≡ said x → Least w x

-- T3 of an outcome with the lists at exit: found, the unit is read from places 0 to R of the first two lists
abbrev pub LeastWritten : List ℕ → Outcome → Lists → Type 0
LeastWritten w (found R m c) l = LeastFound (ticket_of w).field (ticket_of w).D (unit_in R l) R c
LeastWritten w (spent k e) l = Least w (spent k e)
LeastWritten w (refused j) l = Unit

-- T3 of the outcome that the call `unit` says, with its lists at exit
abbrev pub T3Written : Type 0
T3Written = (w : List ℕ) (l : Lists) (x : Outcome) → (unit_answer w l).says ≡ said x → LeastWritten w x (unit_answer w l).lists
