-- What an outcome of half the walk means, and the outcome where its steps end.
use Rattle.std.specs.Prelude.{ℕ, ◌+◌, ◌*◌, ◌-◌, ◌≤◌, ◌<◌, ◌≡◌, Option, None, Some}
use Rattle.spec_definitions.specs.Ticket.{budgets, degrees}
use Rattle.spec_half.specs.Half.{half_found, half_spent, half_refused}
use Rattle.spec_half.specs.Half as answers
use Rattle.walk_stride.specs.declared.Progress.{Progress}
use Rattle.walk_middle.specs.declared.Stop.{Stop}
use Rattle.walk_middle.specs.declared.Stop.TheVariants.{ByQ, ByP, Budget}
use Rattle.walk_half.specs.declared.HalfOutcome.{HalfOutcome}
use Rattle.walk_half.specs.declared.HalfOutcome.TheVariants.{Found, Spent, Refused}

abbrev pub half_meaning : HalfOutcome → answers.HalfOutcome
half_meaning (Found R m) = half_found R.0 m.0
half_meaning (Spent k e) = half_spent k.0 e.0
half_meaning (Refused j) = half_refused j

-- the outcome where the walk is at `at` and Q has `size` places, by the test that ended it
abbrev pub end_of : ℕ → ℕ → Progress → Option Stop → answers.HalfOutcome
end_of top size at None = half_spent at.index.0 at.degree.0
end_of top size at (Some ByQ) = half_found (2 * at.degree.0 - (top - 1)) (2 * at.index.0 - 1)
end_of top size at (Some ByP) = half_found (2 * at.degree.0 - (size - 1)) (2 * at.index.0)
end_of top size at (Some Budget) = half_spent at.index.0 at.degree.0

-- nothing overflows in it, and nothing is below 0: the test of Q does not hold where the walk begins
pub record InRange (top size : ℕ) (at : Progress) (by : Option Stop) : Type 0 where
  pub top_some : 0 < top
  pub size_some : 0 < size
  pub index_few : at.index.0 < budgets
  pub degree_fits : at.degree.0 ≤ degrees
  pub size_less : size ≤ 2 * at.degree.0 + 1
  pub index_some : by ≡ Some ByQ → 0 < at.index.0
  pub top_less : by ≡ Some ByQ → top ≤ 2 * at.degree.0 + 1
