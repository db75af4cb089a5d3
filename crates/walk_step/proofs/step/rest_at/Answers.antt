use Rattle.std.proofs.Common.{◌-◌, ◌+◌, arith, ◌∙◌, get_or}
use Rattle.spec_bridge.specs.Product.{dots}
use Rattle.base_places.specs.Dots.{dots_all}
use Rattle.walk_short.specs.Coefficients.{rest_is}
use Rattle.walk_step.specs.Terms.{less_none, less_next}
use Rattle.walk_step.proofs.step.rest_at.Goals as goal

pub loop-i-init : goal.loop-i-init
loop-i-init c =
    let h = c.requires.bounded.0 c.args.k in
    (omega arith, less_none c.args.f.q (get_or c.args.twice.now c.args.k 0 + (c.args.f.q - get_or c.args.rest.now c.args.k 0)) c.args.x.now c.args.current.now c.args.k c.args.from c.requires.within.1 (omega arith))

pub loop-i-preserved : goal.loop-i-preserved
loop-i-preserved c =
    let l = c.loop-i in
    (omega arith, less_next c.args.f.q _ c.args.x.now c.args.current.now c.args.k c.args.f.is_field.2 c.requires.within.0.reduced c.requires.bounded.2 l.i l.t l.invariant.1)

pub returns : goal.returns
returns c =
    let l = c.loop-i in
    let h = c.requires.bounded.1 c.args.k in
    c.reduce.ensures
    ∙ rest_is c.args.f.q (omega arith) c.args.twice.now c.args.rest.now c.args.x.now c.args.current.now c.args.k l.t (dots c.args.x.now c.args.current.now c.args.k l.i) h (dots_all c.args.f.q (omega arith) c.args.x.now c.args.current.now c.args.k c.args.l l.i c.requires.within.0.past (omega arith) (omega arith)) l.invariant.1.sum
