-- The answer of a ticket that is refused, or at its primes; T3 of each place.
use Rattle.std.proofs.Common.{ap, map}
use Rattle.spec_definitions.specs.Answers.{said}
use Rattle.spec_several.specs.Several.{several_answer}
use Rattle.call_regulators.proofs.OutcomeLaws.{least_each}
use Rattle.call_regulators.proofs.regulators.Goals as goal

pub returns-in-Ok : goal.returns-in-Ok
unfolding several_answer
returns-in-Ok c = let h = c.at_primes.ensures in record {
  words = h.words;
  count = h.count;
  says = ap (map said) h.places;
  least = least_each _ _ h;
}

pub returns-in-Err : goal.returns-in-Err
unfolding several_answer
returns-in-Err c = let h = c.refused_ticket.ensures in record {
  words = h.words;
  count = h.count;
  says = ap (map said) h.places;
  least = least_each _ _ h;
}
