-- The difference is held, and its polynomial is the definition's.
use Rattle.std.proofs.Common.{arith, ap}
use Rattle.spec_arithmetic.specs.Polynomials.{rem}
use Rattle.base_division.specs.Difference.{held_fits}
use Rattle.base_field.specs.Named.{ops}
use Rattle.base_polynomial.specs.Whole.{poly}
use Rattle.ideal_operand.specs.Difference.{result_difference, is_path}
use Rattle.ideal_shared.proofs.residue.Goals as goal

pub subtract_product-requires : goal.subtract_product-requires
subtract_product-requires c =
    let h = c.requires.held in
    record { places = omega arith; fits = (held_fits h.0, held_fits h.1, held_fits h.2) }

pub remainder-requires : goal.remainder-requires
remainder-requires c =
    let h = c.requires.held in
    ((result_difference _ _ _ h.0 h.1 h.2 _ c.subtract_product.ensures (omega arith)).held, h.3, omega arith)

pub returns : goal.returns
returns c =
    let h = c.requires.held in
    is_path (ap (λ l. rem (ops c.args.f) l (poly c.args.q.now)) (result_difference _ _ _ h.0 h.1 h.2 _ c.subtract_product.ensures (omega arith)).is) c.remainder.ensures
