-- The difference is at most as long as the longer P, so that each product fits; each polynomial is the
-- definition's.
use Rattle.std.proofs.Common.{◌≤◌, arith, ap, ap₂, ◌∙◌}
use Rattle.spec_arithmetic.specs.Polynomials.{sub, mul}
use Rattle.base_division.specs.Difference.{held_fits}
use Rattle.base_field.specs.Named.{ops}
use Rattle.base_polynomial.specs.Whole.{poly}
use Rattle.base_polynomial.specs.Over.{length_poly, result_sub, result_mul}
use Rattle.ideal_operand.specs.Operand.{operand_q, operand_p, operand_q_size, operand_p_size, operand_q_some}
use Rattle.ideal_operand.specs.Difference.{size_subtract, is_path}
use Rattle.ideal_shared.proofs.SharedLaws.{cofactor_result, cofactor_bound}
use Rattle.ideal_shared.proofs.bracket.Goals as goal
use Rattle.ideal_shared.proofs.bracket.Goals.{After-subtract}

-- the sizes of P_1 and of the difference
sizes : (c : After-subtract) → (c.args.x.now.p.size ≤ 65) × (c.subtract.new.z.size ≤ 65)
sizes c =
    let h = c.args.s.now.admitted in
    let n = h.genus_most in
    let l = operand_p_size h c.requires.operand in
    (omega arith, size_subtract _ _ (operand_p h c.requires.operand) c.requires.held.0 _ c.subtract.ensures 65 (omega arith) (omega arith))

pub subtract-requires : goal.subtract-requires
subtract-requires c = (operand_p c.args.s.now.admitted c.requires.operand, c.requires.held.0)

pub multiply-requires : goal.multiply-requires
multiply-requires c =
    let h = c.requires.held in
    let n = sizes (goal.at.multiply-requires c).After-subtract in
    record { fits = omega arith; held = (h.1, (result_sub (operand_p c.args.s.now.admitted c.requires.operand) h.0 c.subtract.ensures).held) }

pub cofactor-requires : goal.cofactor-requires
cofactor-requires c =
    let h = c.args.s.now.admitted in
    let x = c.requires.operand in
    let n = h.genus_most in
    let d = h.size_D in
    let l = length_poly c.args.s.now.held in
    let x_q = operand_q_size h x in
    let x_p = operand_p_size h x in
    record {
      sizes = (operand_q_some h x, omega arith, omega arith, omega arith);
      held = (c.args.s.now.held, operand_q h x, operand_p h x);
    }

pub subtract_product-requires : goal.subtract_product-requires
subtract_product-requires c =
    let h = c.requires.held in
    let a = c.args.s.now.admitted in
    let n = sizes (goal.at.subtract_product-requires c).After-subtract in
    let d = result_sub (operand_p a c.requires.operand) h.0 c.subtract.ensures in
    let l = cofactor_bound a c.requires.operand c.cofactor.ensures in
    record {
      places = omega arith;
      fits = (held_fits (result_mul h.1 d.held (omega arith) c.multiply.ensures).held, held_fits h.2, held_fits (cofactor_result a c.requires.operand c.cofactor.ensures).held);
    }

pub returns : goal.returns
returns c =
    let h = c.requires.held in
    let a = c.args.s.now.admitted in
    let n = sizes (goal.at.returns c).After-subtract in
    let d = result_sub (operand_p a c.requires.operand) h.0 c.subtract.ensures in
    let m = result_mul h.1 d.held (omega arith) c.multiply.ensures in
    is_path (ap₂ (sub (ops c.args.s.now.field)) (m.is ∙ ap (mul (ops c.args.s.now.field) (poly c.args.u.now)) d.is) (ap (mul (ops c.args.s.now.field) (poly c.args.w.now)) (cofactor_result a c.requires.operand c.cofactor.ensures).is)) c.subtract_product.ensures
