use Rattle.std.proofs.Common.{sym, ap, ◌∙◌, ℕ, ◌+◌, ◌%◌, arith}
use Rattle.spec_bridge.specs.Product.{dots, dots_more}
use Rattle.base_places.specs.Dots.{dots_before, dots_all}
use Rattle.base_places.specs.Terms.{dots_small, terms_fit}
use Rattle.base_places.proofs.product.terms.Goals as goal

pub loop-i-init : goal.loop-i-init
loop-i-init c =
    (omega arith, sym (ap (dots c.args.x.now c.args.y.now c.args.k) c.saturating_sub-i.ensures ∙ dots_before _ _ _ c.args.n c.requires.within.1.past))

-- one term more fits
pub overflow_add-sum : goal.overflow_add-sum
overflow_add-sum c =
    let i = c.loop-i.i in
    let d = dots_small c.requires.within.0 c.requires.within.1 c.args.k (i + 1) (omega arith) in
    let w = terms_fit c.args.f.q c.args.k c.args.f.is_field.2 c.requires.k_bound.0 in
    let e = dots_more c.args.x.now c.args.y.now c.args.k i in
    omega arith

pub loop-i-preserved : goal.loop-i-preserved
loop-i-preserved c = (omega arith, rw (dots_more, ← c.loop-i.invariant.1))

pub returns : goal.returns
returns c =
    let l = c.loop-i in
    let w = c.requires.within in
    let h = w.0.reduced 0 in
    record {
      residue = ap (λ (v : ℕ). v % c.args.f.q) l.invariant.1 ∙ dots_all c.args.f.q (omega arith) c.args.x.now c.args.y.now c.args.k c.args.m l.i w.0.past (omega arith) (omega arith);
      small = rw l.invariant.1 (dots_small w.0 w.1 c.args.k l.i (omega arith));
    }
