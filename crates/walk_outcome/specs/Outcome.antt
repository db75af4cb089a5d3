-- What an outcome means.
use Rattle.spec_definitions.specs.Answers.{found, spent, refused}
use Rattle.spec_definitions.specs.Answers as answers
use Rattle.walk_outcome.specs.declared.Outcome.{Outcome}
use Rattle.walk_outcome.specs.declared.Outcome.TheVariants.{Found, Spent, Refused}

abbrev pub meaning : Outcome → answers.Outcome
meaning (Found R m c) = found R.0 m.0 c
meaning (Spent k e) = spent k.0 e.0
meaning (Refused j) = refused j
