use Rattle.std.proofs.Common.{arith, sym, ◌∙◌}
use Rattle.base_places.specs.Dots.{mul_past}
use Rattle.base_places.specs.Places.{filled_more, filled_all}
use Rattle.ideal_operand.specs.Upper.{upper_at, upper_zero, filled_below}
use Rattle.ideal_operand.proofs.cofactor.upper_square.Goals as goal

pub loop-i-init : goal.loop-i-init
loop-i-init c = filled_below _ _

pub loop-i-preserved : goal.loop-i-preserved
loop-i-preserved c =
    let l = c.loop-i in
    filled_more _ l.z l.i _ l.invariant (omega arith) (c.dot.ensures ∙ sym (upper_at _ _ l.i (omega arith)))

pub returns : goal.returns
returns c =
    let l = c.loop-i in
    let x = c.requires.0.0 in
    let h = x.reduced 0 in
    let k = c.args.p.now.size in
    filled_all _ l.z l.i l.invariant (λ i w. upper_zero _ _ i (mul_past c.args.f.q (omega arith) _ _ k k x.past x.past i (omega arith)))
