use Rattle.std.proofs.Common.{refl, sym, ap, ◌∙◌, subst, ℕ, ◌<◌, ◌+◌, ◌*◌, ◌-◌, ◌%◌, arith, get_or, rules}
use Rattle.spec_bridge.specs.Product.{shifted}
use Rattle.base_places.specs.TwoRows.{shifted_next, shifted_less}
use Rattle.base_division.specs.Passed.{passed_none, passed_more}
use Rattle.base_division.specs.Difference.{two_at, difference_of_passed}
use Rattle.base_division.proofs.difference.subtract_two.Goals as goal

pub loop-i-init : goal.loop-i-init
unfolding shifted
loop-i-init c = record { before = refl; passed = passed_none _ _ (search rules) }

pub less_two-requires : goal.less_two-requires
less_two-requires c =
    let l = c.loop-i in
    let q = c.args.f.q in
    let w = c.requires.fits.0.0 in
    let u = c.requires.fits.1.0 in (
      subst (λ (x : ℕ). x < q) (sym (l.invariant.passed.rest l.i (omega arith))) (c.requires.within.reduced l.i),
      w.reduced _,
      w.reduced _,
      u.reduced l.i,
      subst (λ (x : ℕ). x < q) (sym l.invariant.before) (shifted_less q (omega arith) _ u.reduced 1 l.i),
    )

pub loop-i-preserved : goal.loop-i-preserved
loop-i-preserved c =
    let l = c.loop-i in
    let q = c.args.f.q in
    let w = c.requires.fits.0.0 in
    let w0 = w.reduced 0 in
    let w1 = w.reduced 1 in
    let two = two_at q (omega arith) c.args.w.now.c c.args.u.now.c (λ i h. w.past i (omega arith)) (get_or c.args.v.now l.i 0) l.i l.y (omega arith) (omega arith) l.invariant.before in
    let here = ap (λ (x : ℕ). (x + ((q - get_or c.args.w.now.c 0 0) * get_or c.args.u.now.c l.i 0 + (q - get_or c.args.w.now.c 1 0) * l.y)) % q) (l.invariant.passed.rest l.i (omega arith)) in
    record { before = sym (shifted_next c.args.u.now.c l.i); passed = passed_more _ _ l.v l.i _ l.invariant.passed (omega arith) (c.less_two.ensures ∙ here ∙ two) }

pub returns : goal.returns
returns c =
    let l = c.loop-i in
    difference_of_passed c.args.f.q (omega arith) c.requires.within c.requires.fits.0.0 c.requires.fits.1.0 l.v l.i (omega arith) (omega arith) l.invariant.passed
