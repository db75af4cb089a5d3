-- Each call's result is held and short enough for the next one; together they are the definition's product.
use Rattle.std.proofs.Common.{arith}
use Rattle.ideal_operand.specs.Operand.{operand_q, operand_p, operand_q_size, operand_p_size}
use Rattle.ideal_shared.proofs.MultiplierLaws.{gcd_result, first_result, first_size, common_is, bezout_u_is, bezout_w_is}
use Rattle.ideal_shared.proofs.SharedLaws.{S_result, S_bounds, first_held, first_bound, Q_result, Q_positive, U_result, U_bound, W_result, W_bound, bracket_result, bracket_bound, multiplied}
use Rattle.ideal_shared.proofs.shared.Goals as goal

pub multipliers-requires : goal.multipliers-requires
multipliers-requires c =
    let h = c.args.s.now.admitted in
    let x = c.requires.operands.0 in
    let y = c.requires.operands.1 in
    let n = h.genus_most in
    let x_p = operand_p_size h x in
    let y_p = operand_p_size h y in
    record {
      sizes = (first_size h x y c.requires.gcd c.requires.part, omega arith, omega arith);
      held = ((gcd_result h x y c.requires.gcd c.requires.part).held, (first_result h x y c.requires.gcd c.requires.part).held, operand_p h x, operand_p h y);
    }

pub norm-requires : goal.norm-requires
norm-requires c =
    let h = c.args.s.now.admitted in
    let x = c.requires.operands.0 in
    let y = c.requires.operands.1 in
    let s = common_is h x y c.requires.gcd c.requires.part c.multipliers.ensures.common in
    let n = h.genus_most in
    let x_q = operand_q_size h x in
    let y_q = operand_q_size h y in
    record {
      sizes = (omega arith, omega arith, (S_bounds h x y s).0);
      held = (operand_q h x, operand_q h y, (S_result h x y s).held);
    }

pub bracket-requires : goal.bracket-requires
bracket-requires c =
    let h = c.args.s.now.admitted in
    let x = c.requires.operands.0 in
    let y = c.requires.operands.1 in
    let u = bezout_u_is h x y c.requires.gcd c.requires.part c.multipliers.ensures.first in
    let w = bezout_w_is h x y c.requires.gcd c.requires.part c.multipliers.ensures.last in
    let n = h.genus_most in
    let y_p = operand_p_size h y in
    record {
      operand = x;
      sizes = (omega arith, U_bound h x y u, W_bound h x y w);
      held = (operand_p h y, (U_result h x y u).held, (W_result h x y w).held);
    }

pub residue-requires : goal.residue-requires
residue-requires c =
    let h = c.args.s.now.admitted in
    let x = c.requires.operands.0 in
    let y = c.requires.operands.1 in
    let s = common_is h x y c.requires.gcd c.requires.part c.multipliers.ensures.common in
    let u = bezout_u_is h x y c.requires.gcd c.requires.part c.multipliers.ensures.first in
    let w = bezout_w_is h x y c.requires.gcd c.requires.part c.multipliers.ensures.last in
    let b = c.bracket.ensures in
    let n = h.genus_most in
    let first_q = first_bound h x y s c.norm.ensures.first in
    let b_q = bracket_bound h x y u w b in
    record {
      sizes = (Q_positive h x y s c.norm.ensures.norm, omega arith);
      held = (operand_p h x, first_held h x y s c.norm.ensures.first, (bracket_result h x y u w b).held, (Q_result h x y s c.norm.ensures.norm).held);
    }

pub returns : goal.returns
returns c =
    let h = c.args.s.now.admitted in
    let x = c.requires.operands.0 in
    let y = c.requires.operands.1 in
    let s = common_is h x y c.requires.gcd c.requires.part c.multipliers.ensures.common in
    let u = bezout_u_is h x y c.requires.gcd c.requires.part c.multipliers.ensures.first in
    let w = bezout_w_is h x y c.requires.gcd c.requires.part c.multipliers.ensures.last in
    multiplied h x y u w c.bracket.ensures s c.norm.ensures.first c.norm.ensures.norm c.residue.ensures
