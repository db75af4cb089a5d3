-- The places before i hold the outcomes of the first i primes.
use Rattle.call_regulators.specs.Filled.{FilledPlaces}
use Rattle.call_regulators.proofs.at_primes.Given as goal

abbrev pub invariant-loop-i : goal.invariant-loop-i
invariant-loop-i l = FilledPlaces l.ticket l.i l.places
