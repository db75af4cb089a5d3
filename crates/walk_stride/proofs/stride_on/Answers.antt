use Rattle.walk_stride.specs.Progress.{going_by}
use Rattle.walk_stride.proofs.stride_on.Goals as goal

pub stride-requires : goal.stride-requires
stride-requires c = rw c.top.ensures (going_by c.args.w.now c.requires)
