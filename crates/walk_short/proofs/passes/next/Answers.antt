use Rattle.std.proofs.Common.{ℕ, ◌+◌, ◌-◌, ◌<◌, arith, sym, ap₂, ◌∙◌, get_or}
use Rattle.spec_bridge.specs.Product.{shifted}
use Rattle.base_places.specs.Places.{filled_none, filled_more}
use Rattle.base_places.specs.TwoRows.{shifted_next, shifted_less}
use Rattle.walk_short.specs.Start.{divided}
use Rattle.walk_short.specs.Sizes.{positive, quo_reduced, rem_reduced}
use Rattle.walk_short.specs.Short.{shifted_second, next_three}
use Rattle.walk_short.proofs.passes.next.Goals as goal

pub loop-k-init : goal.loop-k-init
unfolding shifted
loop-k-init g c = (omega arith, omega arith, filled_none _)

pub overflow_add-x : goal.overflow_add-x
overflow_add-x g c =
    let l = c.loop-k in
    let hz : get_or c.args.remains.now l.k 0 < c.args.s.now.field.q = rw (c.requires.places.at l.k) (rem_reduced c.args.s.now.field.is_field.0 (divided c.args.s.now) l.k) in
    omega arith

pub next_of-requires-clause-ok : goal.next_of-requires-clause-ok
next_of-requires-clause-ok g c =
    let p = c.args.s.now.field.is_field.0 in
    let r = c.args.s.now.ready in
    let d = divided c.args.s.now in
    let pos = positive p d in
    let l = c.loop-k in
    let h0 : c.args.a0 < c.args.s.now.field.q = rw c.requires.quadratic.0 (quo_reduced p d 0) in
    let h1 : c.args.a1 < c.args.s.now.field.q = rw c.requires.quadratic.1 (quo_reduced p d 1) in
    let h2 : c.args.a2 < c.args.s.now.field.q = rw c.requires.quadratic.2 (quo_reduced p d 2) in
    let wz : (i : ℕ) → get_or c.args.remains.now i 0 < c.args.s.now.field.q = (λ i. rw (c.requires.places.at i) (rem_reduced p d i)) in
    let hz = wz l.k in
    let hy = shifted_less c.args.s.now.field.q pos c.args.remains.now wz 1 l.k in
    let hr = shifted_less c.args.s.now.field.q pos c.args.s.now.rest.now d.rest_within.reduced 1 l.k in
    let hy2 = shifted_less c.args.s.now.field.q pos c.args.remains.now wz 2 l.k in
    let hr2 = shifted_less c.args.s.now.field.q pos c.args.s.now.rest.now d.rest_within.reduced 2 l.k in
    (r.before_reduced l.k, h0, h1, h2, omega arith, omega arith, omega arith)

pub loop-k-preserved : goal.loop-k-preserved
loop-k-preserved g c =
    let p = c.args.s.now.field.is_field.0 in
    let d = divided c.args.s.now in
    let l = c.loop-k in (
      sym (ap₂ (λ (u v : ℕ). u + (c.args.s.now.field.q - v)) (shifted_next c.args.remains.now l.k) (shifted_next c.args.s.now.rest.now l.k)),
      l.invariant.0 ∙ sym (ap₂ (λ (u v : ℕ). u + (c.args.s.now.field.q - v)) (shifted_second c.args.remains.now l.k) (shifted_second c.args.s.now.rest.now l.k)),
      filled_more _ l.after l.k _ l.invariant.2 (omega arith) (next_three p d c.args.a0 c.args.a1 c.args.a2 c.requires.quadratic (omega arith) c.args.s.now.before.now c.args.remains.now c.requires.places.at l.k _ l.y l.z l.invariant.0 l.invariant.1 c.next_of.ensures),
    )
