-- The invariant: the steps stand some steps past the start, at a distance of at most y. The measure is y less the
-- distance, which rises since Q has fewer than g + 2 places.
use Rattle.std.proofs.Common.{◌-◌, ◌≤◌}
use Rattle.ideal_climb.specs.Climbs.{Climbs}
use Rattle.ideal_climb.proofs.ascend.Given as goal

abbrev pub invariant-loop-y : goal.invariant-loop-y
invariant-loop-y l = Climbs l.r l.before l.current l.rest l.at × (l.at.0 ≤ l.y.0)

abbrev pub decreases-loop-y : goal.decreases-loop-y
decreases-loop-y l = l.y.0 - l.at.0
