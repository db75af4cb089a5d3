use Rattle.std.proofs.Common.{◌<◌, ◌≤◌, arith}
use Rattle.std.proofs.lemmas.Grind.{common_steps}
use Rattle.spec_definitions.specs.Products.{farthest}
use Rattle.walk_state.specs.Root.{top}
use Rattle.ideal_climb.specs.Climbs.{climbs_sizes, climbs_ready, climbs_next}
use Rattle.ideal_climb.proofs.ascend.Goals as goal
use Rattle.ideal_climb.proofs.ascend.Goals.{At-loop-y}

-- what the next distance and a step ask for
sizes : (c : At-loop-y) → (0 < c.loop-y.current.size) × (c.loop-y.current.size < top c.args.r.now) × (top c.args.r.now ≤ 33) × (c.loop-y.at.0 ≤ farthest)
sizes c = let s = climbs_sizes c.loop-y.invariant.0 in let a = c.loop-y.invariant.1 in let b = c.requires.distances.1 in (s.0, s.1, s.2, omega arith)

pub next_distance-requires : goal.next_distance-requires
next_distance-requires c = let s = sizes (goal.at.next_distance-requires c).At-loop-y in (omega arith, s.3)

pub turn-at-requires : goal.turn-at-requires
turn-at-requires c =
    let s = sizes (goal.at.turn-at-requires c).At-loop-y in
    record {
      sizes = (s.0, omega arith, omega arith, s.3);
      ready = climbs_ready c.loop-y.invariant.0;
    }

pub loop-y-smaller : goal.loop-y-smaller
loop-y-smaller c =
    let s = sizes (goal.at.loop-y-smaller c).At-loop-y in
    let e = c.turn-at.ensures.distance_is in
    grind (arith, common_steps)

pub loop-y-preserved : goal.loop-y-preserved
loop-y-preserved c =
    let e = c.turn-at.ensures.distance_is in
    (climbs_next c.loop-y.invariant.0 c.turn-at.ensures, grind (arith, common_steps))
