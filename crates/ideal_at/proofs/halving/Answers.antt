use Rattle.std.proofs.Common.{refl, sym}
use Rattle.ideal_at.specs.Digits.{quotient_half}
use Rattle.ideal_at.specs.First.{first_last}
use Rattle.ideal_at.specs.FromHalf.{last_path}
use Rattle.ideal_at.proofs.halving.Goals as goal

pub loop-k-init : goal.loop-k-init
loop-k-init c =
    let e = c.digits-k.ensures in
    let h = c.first.ensures in
    (e.1, last_path (sym e.0) (first_last c.args.r.now.surd h.0 h.1 refl))

pub from_half-at-requires-clause-last : goal.from_half-at-requires-clause-last
from_half-at-requires-clause-last c = last_path (quotient_half c.args.y.0 _ c.loop-k-test.true) c.loop-k.invariant.1
