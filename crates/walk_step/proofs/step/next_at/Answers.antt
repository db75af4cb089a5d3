use Rattle.std.proofs.Common.{◌-◌, ◌+◌, arith, ◌∙◌, get_or}
use Rattle.spec_bridge.specs.Product.{dots}
use Rattle.base_places.specs.Dots.{dots_all}
use Rattle.walk_short.specs.Coefficients.{next_is}
use Rattle.walk_step.specs.Terms.{more_none, more_next}
use Rattle.walk_step.proofs.step.next_at.Goals as goal

pub loop-i-init : goal.loop-i-init
loop-i-init c =
    let h = c.args.s.now.ready.before_reduced c.args.k in
    more_none c.args.s.now.field.q (get_or c.args.s.now.before.now c.args.k 0) c.args.a.now c.args.remains.now c.args.s.now.rest.now c.args.k (omega arith)

pub loop-i-preserved : goal.loop-i-preserved
loop-i-preserved c =
    let l = c.loop-i in
    more_next c.args.s.now.field.q _ c.args.a.now c.args.remains.now c.args.s.now.rest.now c.args.k c.args.s.now.field.is_field.2 c.requires.within.0.reduced c.requires.within.1 c.args.s.now.ready.rest_within.reduced l.i l.t l.invariant

pub returns : goal.returns
returns c =
    let l = c.loop-i in
    let h = c.args.s.now.ready.before_reduced 0 in
    let a = c.args.a.now in
    let k = c.args.k in
    c.reduce.ensures
    ∙ next_is c.args.s.now.field.q (omega arith) c.args.s.now.before.now a c.args.remains.now c.args.s.now.rest.now k l.t (dots a c.args.remains.now k l.i) (dots a c.args.s.now.rest.now k l.i) (dots_all c.args.s.now.field.q (omega arith) a c.args.remains.now k c.args.l l.i c.requires.within.0.past (omega arith) (omega arith)) (dots_all c.args.s.now.field.q (omega arith) a c.args.s.now.rest.now k c.args.l l.i c.requires.within.0.past (omega arith) (omega arith)) l.invariant.sum
