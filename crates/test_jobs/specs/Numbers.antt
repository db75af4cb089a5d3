-- The four numbers of an outcome: 0 with R, m and c; 11 with the steps made and the degree reached; a refusal's.
use Rattle.walk_outcome.specs.declared.Outcome.{Outcome}
use Rattle.walk_outcome.specs.declared.Outcome.TheVariants.{Found, Spent, Refused}
use Rattle.test_jobs.specs.declared.Numbers.{Numbers}

abbrev pub numbers_of : Outcome → Numbers
numbers_of (Found R m c) = record { number = 0; first = R.0; second = m.0; third = c }
numbers_of (Spent k e) = record { number = 11; first = k.0; second = e.0; third = 0 }
numbers_of (Refused j) = record { number = j; first = 0; second = 0; third = 0 }
