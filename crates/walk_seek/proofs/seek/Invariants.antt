-- The budget is spent at the index where the loop returns; where it leaves with an index, Q there is the
-- first that is constant.
use Rattle.std.proofs.Common.{◌-◌}
use Rattle.walk_lead.specs.Kept.{largest_coefficient}
use Rattle.walk_seek.specs.Steps.{Seeking}
use Rattle.walk_seek.proofs.seek.Given as goal

abbrev pub invariant-loop-at : goal.invariant-loop-at
invariant-loop-at l = Seeking l.w l.budget.steps largest_coefficient l.a l.b l.x l.at l.twice_lead

abbrev pub decreases-loop-at : goal.decreases-loop-at
decreases-loop-at l = l.budget.steps - l.at.index.0
