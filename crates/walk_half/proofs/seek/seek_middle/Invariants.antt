-- Between the steps no test holds at an index two or more below that of the walk: the tests at the one just below
-- come after the next step. Where the loop is left, the outcome is that of the test that holds first.
use Rattle.std.proofs.Common.{◌-◌}
use Rattle.walk_half.specs.Search.{Searching}
use Rattle.walk_half.proofs.seek.seek_middle.Given as goal

abbrev pub invariant-loop-by : goal.invariant-loop-by
invariant-loop-by l = Searching l.w l.budget.steps l.a l.b l.x l.at

abbrev pub decreases-loop-by : goal.decreases-loop-by
decreases-loop-by l = l.budget.steps - l.at.index.0
