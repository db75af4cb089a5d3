-- At most one job differs for each that was run.
use Rattle.std.proofs.Common.{◌≤◌}
use Rattle.test_jobs.proofs.run_jobs.Given as goal

abbrev pub invariant-loop-i : goal.invariant-loop-i
invariant-loop-i g l = goal.F-IsAlwaysCallable g l.run × l.differ ≤ l.i
