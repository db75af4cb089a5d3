-- Each step takes the state and the degree on, to the last, and the tests stop at most once for each.
use Rattle.std.proofs.Common.{◌-◌}
use Rattle.bench_walk.specs.Tried.{Trying}
use Rattle.bench_walk.proofs.half.try_on.Given as goal

abbrev pub invariant-loop-at : goal.invariant-loop-at
invariant-loop-at l = Trying l.w l.steps.steps l.a l.b l.x l.counted l.at

abbrev pub decreases-loop-at : goal.decreases-loop-at
decreases-loop-at l = l.steps.steps - l.at.index.0
