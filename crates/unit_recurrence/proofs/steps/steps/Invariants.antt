-- The state of the walk and the two pairs of lists at the walk's index.
use Rattle.std.proofs.Common.{◌-◌, ◌≤◌}
use Rattle.walk_stride.specs.Walked.{Walked}
use Rattle.unit_recurrence.specs.Pairs.{Pairs}
use Rattle.unit_recurrence.proofs.steps.steps.Given as goal

abbrev pub invariant-loop-before : goal.invariant-loop-before
invariant-loop-before l =
    record {
      within : l.at.index.0 ≤ l.w.m.0;
      walked : Walked l.w.walk.now l.before l.current l.rest l.at;
      pairs : Pairs l.w.walk.now l.w.m.0 l.at.index.0 l.p l.s l.x l.y;
    }

abbrev pub decreases-loop-before : goal.decreases-loop-before
decreases-loop-before l = l.w.m.0 - l.at.index.0
