use Rattle.std.proofs.Common.{ℕ, ◌+◌, ◌%◌, arith, refl, ap, ◌∙◌}
use Rattle.spec_bridge.specs.Product.{dots, dots_more}
use Rattle.base_places.specs.Dots.{dots_all}
use Rattle.unit_combine.specs.Sum.{terms_small, square_small}
use Rattle.unit_combine.proofs.combine.terms.Goals as goal

pub loop-i-init : goal.loop-i-init
unfolding dots
loop-i-init c = refl

-- one term more fits
pub overflow_add-sum : goal.overflow_add-sum
overflow_add-sum c =
    let d = terms_small c.requires.fits.0 c.args.from.now c.requires.bounded c.args.k (c.loop-i.i + 1) (omega arith) in
    let w = square_small c.args.f.q c.args.f.is_field.2 in
    let e = dots_more c.args.a.now.c c.args.from.now c.args.k c.loop-i.i in
    omega arith

pub loop-i-preserved : goal.loop-i-preserved
loop-i-preserved c = rw (dots_more, ← c.loop-i.invariant)

pub returns : goal.returns
returns c =
    let l = c.loop-i in
    record {
      residue = ap (λ (v : ℕ). v % c.args.f.q) l.invariant ∙ dots_all c.args.f.q (let w = c.args.f.is_field.1 in omega arith) c.args.a.now.c c.args.from.now c.args.k c.args.a.now.size l.i c.requires.fits.0.past (omega arith) (omega arith);
      small = rw l.invariant (terms_small c.requires.fits.0 c.args.from.now c.requires.bounded c.args.k l.i (omega arith));
    }
