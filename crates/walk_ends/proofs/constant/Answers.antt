-- A product and the constant with its sign are below q.
use Rattle.std.proofs.Common.{mod-lt}
use Rattle.spec_bridge.specs.Residues.{pos}
use Rattle.walk_ends.specs.Constant.{signed_below}
use Rattle.walk_ends.proofs.constant.Goals as goal

pub mul-requires-2 : goal.mul-requires-2
mul-requires-2 c = (rw c.mul.ensures (mod-lt _ (pos _ c.args.f.is_field.0)), rw c.signed.ensures (signed_below c.args.f.q c.args.m.0 c.args.c c.requires.0))
