-- T3 of the lists that the call `unit` writes: where it answers found with R, m, c, places 0 to R of its
-- first two lists are a unit of the least degree R and the norm c. The places hold the unit's coefficients
-- and zeros above, which is the same polynomial, and what T3 says depends on polynomials alone.
use Prim.Native.Nat.{ℕ, suc}
use Rattle.std.specs.Prelude.{◌≡◌, take}
use mathlib.Core.List.{List}
use Rattle.spec_definitions.specs.Ticket.{ticket_of}
use Rattle.spec_definitions.specs.Walk.{Unit as UnitPair}
use Rattle.spec_definitions.specs.Answers.{found, said}
use Rattle.spec_definitions.specs.Units.{Lists, unit_answer}
use Rattle.spec_demands.specs.LeastDegree.{LeastFound}

-- places 0 to R of the first two lists
abbrev pub unit_in : ℕ → Lists → UnitPair ℕ
unit_in R l = record { p = take (suc R) l.first; s = take (suc R) l.second }

abbrev pub T3-unit : Type 0
T3-unit = (w : List ℕ) (l : Lists) (R m c : ℕ) → (unit_answer w l).says ≡ said (found R m c) → LeastFound (ticket_of w).field (ticket_of w).D (unit_in R (unit_answer w l).lists) R c
