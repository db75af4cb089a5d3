-- A pair whose Q has degree at most g is the first one.
use Rattle.std.proofs.Common.{arith}
use Rattle.ideal_reduce.specs.Start.{q_some, reduces_none}
use Rattle.ideal_reduce.proofs.reduce.Goals as goal

pub normal-requires : goal.normal-requires
normal-requires c =
    let t = c.requires in
    record {
      some = q_some c.args.r.now t;
      held = (t.held_q, t.held_p);
    }

pub returns-else-top-a-2 : goal.returns-else-top-a-2
returns-else-top-a-2 c = reduces_none c.args.r.now c.requires (omega arith) c.normal.ensures.q c.normal.ensures.p
