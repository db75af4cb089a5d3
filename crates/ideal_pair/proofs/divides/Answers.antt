-- D − P² is held, and its polynomial is the definition's; so is the remainder's size.
use Rattle.std.proofs.Common.{arith, ap}
use Rattle.spec_arithmetic.specs.Polynomials.{rem}
use Rattle.base_division.specs.Difference.{held_fits}
use Rattle.base_field.specs.Named.{ops}
use Rattle.base_polynomial.specs.Whole.{poly}
use Rattle.ideal_operand.specs.Difference.{result_difference, is_path}
use Rattle.ideal_pair.specs.Pair.{none_left}
use Rattle.ideal_pair.proofs.divides.Goals as goal

pub subtract_product-requires-clause-fits : goal.subtract_product-requires-clause-fits
subtract_product-requires-clause-fits c = let h = c.requires.held in (held_fits h.0, held_fits h.2, held_fits h.2)

pub remainder-requires : goal.remainder-requires
remainder-requires c =
    let h = c.requires.held in
    ((result_difference _ _ _ h.0 h.2 h.2 _ c.subtract_product.ensures (omega arith)).held, h.1, omega arith)

pub returns : goal.returns
returns c =
    let h = c.requires.held in
    let d = result_difference _ _ _ h.0 h.2 h.2 _ c.subtract_product.ensures (omega arith) in
    none_left (is_path (ap (λ l. rem (ops c.args.f) l (poly c.args.x.now.q)) d.is) c.remainder.ensures).size_is
