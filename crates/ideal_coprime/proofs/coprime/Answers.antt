-- The factor of Q_1 is held and shorter than Q_2, so that its product with Q_1 fits.
use Rattle.std.proofs.Common.{arith, ap}
use Rattle.spec_arithmetic.specs.Polynomials.{sub, mul}
use Rattle.base_division.specs.Difference.{held_fits}
use Rattle.base_field.specs.Named.{ops}
use Rattle.base_polynomial.specs.Whole.{poly}
use Rattle.ideal_operand.specs.Difference.{remainder_less, remainder_result, is_path}
use Rattle.ideal_coprime.proofs.coprime.Goals as goal

pub subtract_product-requires : goal.subtract_product-requires
subtract_product-requires c =
    let h = c.requires.held in
    let n = remainder_less c.args.f.is_field.0 _ _ h.2 (omega arith) _ c.factor.ensures in
    let t = remainder_result c.args.f.is_field.0 _ _ h.2 (omega arith) _ c.factor.ensures in
    record { places = omega arith; fits = (held_fits h.1, held_fits h.0, held_fits t.held) }

pub returns : goal.returns
returns c =
    let h = c.requires.held in
    let t = remainder_result c.args.f.is_field.0 _ _ h.2 (omega arith) _ c.factor.ensures in
    record {
      q = c.multiply.ensures;
      p = is_path (ap (λ l. sub (ops c.args.f) (poly c.args.x.now.p) (mul (ops c.args.f) (poly c.args.x.now.q) l)) t.is) c.subtract_product.ensures;
    }
