-- The next Q has no places from top on, and its size is found from there down.
use Rattle.std.proofs.Common.{arith}
use Rattle.walk_step.specs.Result.{stepped}
use Rattle.walk_step.proofs.step.step.Goals as goal

pub returns : goal.returns
returns c = stepped c.args.s.now.field.is_field.0 c.args.s.now.ready (omega arith) c.fill.ensures c.top.ensures
