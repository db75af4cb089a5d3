-- The places of the difference and its size are the difference's record.
use Rattle.std.proofs.Common.{◌∙◌, arith, get_or}
use Rattle.spec_arithmetic.specs.Polynomials.{mul}
use Rattle.base_places.specs.Places.{Places}
use Rattle.base_field.specs.Named.{ops}
use Rattle.base_division.specs.Difference.{difference_past, is_difference}
use Rattle.base_division.proofs.difference.subtract_product.Goals.{Joined-w-le2, then-w-le2, else-w-le2}
use Rattle.base_division.proofs.difference.subtract_product.Goals as goal

-- by either way
places : (c : Joined-w-le2) → Places c.if-w-le2.v.c (λ i. (ops c.args.f).sub (get_or c.args.v.now.c i 0) (get_or (mul (ops c.args.f) c.args.w.now.c c.args.u.now.c) i 0))
places c = elim c.if-w-le2.branch [ then-w-le2 w ↦ rw w.v-is w.subtract_two.ensures | else-w-le2 w ↦ rw w.v-is w.subtract_many.ensures ]

pub top-v-requires-clause-by_index : goal.top-v-requires-clause-by_index
top-v-requires-clause-by_index c =
    let fits = c.requires.fits in
    λ i h. (places c).at i ∙ difference_past c.args.f.q (omega arith) fits.0.0 fits.1.0 fits.2.0 i (omega arith) (omega arith)

pub returns : goal.returns
returns c =
    let fits = c.requires.fits in
    is_difference c.args.f.q (omega arith) fits.0.0 fits.1.0 fits.2.0 _ _ (places (goal.at.returns c).Joined-w-le2) c.top-v.ensures
