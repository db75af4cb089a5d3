use Rattle.std.proofs.Common.{◌<◌, arith, refl, sym, ◌∙◌}
use Rattle.spec_bridge.specs.Product.{shifted}
use Rattle.base_places.specs.Places.{filled_none, filled_more, filled_all}
use Rattle.base_places.specs.TwoRows.{shifted_next, shifted_less}
use Rattle.walk_short.specs.Start.{divided}
use Rattle.walk_short.specs.Sizes.{positive, rem_past, quo_reduced}
use Rattle.walk_short.specs.Short.{shifted_second, rest_three}
use Rattle.walk_short.proofs.passes.remainder.Goals as goal

pub loop-k-init : goal.loop-k-init
unfolding shifted
loop-k-init g c = (refl, refl, filled_none _)

pub rest_of-requires-clause-ok : goal.rest_of-requires-clause-ok
rest_of-requires-clause-ok g c =
    let p = c.args.s.now.field.is_field.0 in
    let d = divided c.args.s.now in
    let pos = positive p d in
    let l = c.loop-k in
    let h0 : c.args.a0 < c.args.s.now.field.q = rw c.requires.quadratic.0 (quo_reduced p d 0) in
    let h1 : c.args.a1 < c.args.s.now.field.q = rw c.requires.quadratic.1 (quo_reduced p d 1) in
    let h2 : c.args.a2 < c.args.s.now.field.q = rw c.requires.quadratic.2 (quo_reduced p d 2) in
    let hy : l.y < c.args.s.now.field.q = rw l.invariant.0 (shifted_less _ pos _ d.current_within.reduced 1 l.k) in
    let hz : l.z < c.args.s.now.field.q = rw l.invariant.1 (shifted_less _ pos _ d.current_within.reduced 2 l.k) in
    (d.twice_within.reduced l.k, d.rest_within.reduced l.k, h0, h1, h2, d.current_within.reduced l.k, hy, hz)

pub loop-k-preserved : goal.loop-k-preserved
loop-k-preserved g c =
    let p = c.args.s.now.field.is_field.0 in
    let d = divided c.args.s.now in
    let l = c.loop-k in (
      sym (shifted_next c.args.s.now.current.now l.k),
      l.invariant.0 ∙ sym (shifted_second c.args.s.now.current.now l.k),
      filled_more _ l.remains l.k _ l.invariant.2 (omega arith) (rest_three p d c.args.a0 c.args.a1 c.args.a2 c.requires.quadratic (omega arith) l.k _ l.y l.z l.invariant.0 l.invariant.1 c.rest_of.ensures),
    )

pub returns : goal.returns
returns g c =
    let l = c.loop-k in
    filled_all _ l.remains l.k l.invariant.2 (λ i h. rem_past c.args.s.now.field.is_field.0 (divided c.args.s.now) i (omega arith))
