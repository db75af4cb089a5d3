-- Each result is held, and its polynomial is the definition's.
use Rattle.std.proofs.Common.{arith, ap, ◌∙◌}
use Rattle.spec_arithmetic.specs.Polynomials.{mul, rem}
use Rattle.base_field.specs.Named.{ops}
use Rattle.base_polynomial.specs.Whole.{poly}
use Rattle.base_polynomial.specs.Over.{result_sub, result_mul}
use Rattle.ideal_operand.specs.Difference.{size_subtract, is_path}
use Rattle.ideal_coprime.proofs.factor.Goals as goal

pub multiply-requires : goal.multiply-requires
multiply-requires c =
    let h = c.requires.held in
    let n = size_subtract _ _ h.1 h.2 _ c.subtract.ensures 65 (omega arith) (omega arith) in
    record { fits = omega arith; held = (h.0, (result_sub h.1 h.2 c.subtract.ensures).held) }

pub remainder-requires : goal.remainder-requires
remainder-requires c =
    let h = c.requires.held in
    let n = size_subtract _ _ h.1 h.2 _ c.subtract.ensures 65 (omega arith) (omega arith) in
    ((result_mul h.0 (result_sub h.1 h.2 c.subtract.ensures).held (omega arith) c.multiply.ensures).held, h.3, omega arith)

pub returns : goal.returns
returns c =
    let h = c.requires.held in
    let n = size_subtract _ _ h.1 h.2 _ c.subtract.ensures 65 (omega arith) (omega arith) in
    let d = result_sub h.1 h.2 c.subtract.ensures in
    let m = result_mul h.0 d.held (omega arith) c.multiply.ensures in
    is_path (ap (λ l. rem (ops c.args.f) l (poly c.args.b.now)) (m.is ∙ ap (mul (ops c.args.f) (poly c.args.u.now)) d.is)) c.remainder.ensures
