-- Where the next distance is above y already, the ideal is the one handed in.
use Rattle.std.proofs.Common.{arith}
use Rattle.std.proofs.lemmas.Grind.{common_steps}
use Rattle.ideal_operand.specs.Operand.{operand_q_size}
use Rattle.ideal_climb.specs.Located.{on_walk_operand}
use Rattle.ideal_climb.specs.Climbs.{stays_last}
use Rattle.ideal_climb.proofs.climb.Goals as goal

pub next_distance-requires : goal.next_distance-requires
next_distance-requires c =
    let a = operand_q_size c.args.r.now.surd.admitted (on_walk_operand c.requires.on_walk.is) in
    let d = c.requires.distances in
    (omega arith, omega arith)

pub returns-then-lt : goal.returns-then-lt
returns-then-lt c =
    let d = c.requires.distances in
    stays_last c.requires.on_walk.is d.0 (grind (arith, common_steps))
