-- The product has two terms there.
use Rattle.std.proofs.Common.{sym, ◌∙◌, subst, ℕ, ◌<◌, arith}
use Rattle.base_places.specs.TwoRows.{shifted_less}
use Rattle.base_division.specs.Difference.{two_at}
use Rattle.base_division.proofs.difference.rest_two.Goals as goal

pub less_two-requires : goal.less_two-requires
less_two-requires c =
    let w = c.requires.fits.0.0 in
    let u = c.requires.fits.1 in
    let y = subst (λ (x : ℕ). x < c.args.f.q) (sym c.below.ensures) (shifted_less _ (omega arith) _ u.reduced 1 c.args.i) in
    (c.requires.i_bound.1, w.reduced 0, w.reduced 1, u.reduced c.args.i, y)

pub returns : goal.returns
returns c =
    let w = c.requires.fits.0.0 in
    let w0 = w.reduced 0 in
    let w1 = w.reduced 1 in
    c.less_two.ensures ∙ two_at c.args.f.q (omega arith) c.args.w.now.c c.args.u.now.c (λ i h. w.past i (omega arith)) _ c.args.i _ (omega arith) (omega arith) c.below.ensures
