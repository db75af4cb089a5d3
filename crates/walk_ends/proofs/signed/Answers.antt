-- The sign is that of the parity of m.
use Rattle.std.proofs.Common.{arith, sym, ◌∙◌}
use Rattle.walk_ends.specs.Constant.{signed_even, signed_odd}
use Rattle.walk_ends.proofs.signed.Goals as goal

pub returns-then-m-eq0 : goal.returns-then-m-eq0
returns-then-m-eq0 c = sym (signed_even c.args.f.q c.args.m.0 c.args.c (omega arith))

pub returns-else-m-eq0 : goal.returns-else-m-eq0
returns-else-m-eq0 c = c.neg.ensures ∙ sym (signed_odd c.args.f.q c.args.m.0 c.args.c c.if-m-eq0.false)
