use Rattle.walk_stride.specs.Progress.{going_by}
use Rattle.walk_stride.proofs.turn_on.Goals as goal

pub turn-requires : goal.turn-requires
turn-requires c = rw c.top.ensures (going_by c.args.w.now c.requires)
