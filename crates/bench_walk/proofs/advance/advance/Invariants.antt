-- Each step takes the state, the degree and the product on, to the last.
use Rattle.std.proofs.Common.{◌-◌}
use Rattle.walk_lead.specs.Kept.{largest_coefficient}
use Rattle.bench_walk.specs.Kept.{Multiplying}
use Rattle.bench_walk.proofs.advance.advance.Given as goal

abbrev pub invariant-loop-at : goal.invariant-loop-at
invariant-loop-at l = Multiplying l.w l.steps.steps largest_coefficient l.a l.b l.x l.at l.twice_lead

abbrev pub decreases-loop-at : goal.decreases-loop-at
decreases-loop-at l = l.steps.steps - l.at.index.0
