-- What an answer is as plain numbers.
use Rattle.std.specs.Prelude.{◌≡◌}
use Rattle.spec_definitions.specs.Answers.{said}
use Rattle.base_answers.specs.declared.Answer.{Answer}
use Rattle.walk_outcome.specs.declared.Outcome.{Outcome}
use Rattle.walk_outcome.specs.Outcome.{meaning}
use Rattle.out_numbers.specs.declared.Numbers.{Numbers}
use Rattle.out_numbers.specs.Numbers.{Plain}

abbrev pub AsNumbers : Answer Outcome → Numbers → Type 0
AsNumbers a n = (n.words ≡ a.words) × Plain (said (meaning a.outcome)) n.number n.first n.second n.third
