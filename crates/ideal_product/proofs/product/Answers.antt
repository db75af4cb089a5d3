-- Where Q_1 and Q_2 have no common factor U is held and short, and what is made from it is the definition's
-- product; else the product is `shared`'s.
use Rattle.std.proofs.Common.{arith}
use Rattle.ideal_operand.specs.Operand.{operand_q, operand_p, operand_q_size, operand_p_size, operand_q_some}
use Rattle.ideal_product.specs.CoprimeResult.{u_result, u_bound, coprime_multiplied}
use Rattle.ideal_product.proofs.product.Goals as goal

pub first_factor-requires : goal.first_factor-requires
first_factor-requires c =
    let h = c.args.s.now.admitted in
    (operand_q h c.requires.0, operand_q h c.requires.1)

pub coprime-requires : goal.coprime-requires
coprime-requires c =
    let h = c.args.s.now.admitted in
    let x = c.requires.0 in
    let y = c.requires.1 in
    let n = h.genus_most in
    let x_q = operand_q_size h x in
    let y_q = operand_q_size h y in
    let x_p = operand_p_size h x in
    let y_p = operand_p_size h y in
    let u = c.first_factor.ensures.first in
    record {
      sizes_x = (omega arith, omega arith);
      sizes_y = (operand_q_some h y, omega arith, omega arith);
      size_u = u_bound h x y u;
      held = (operand_q h x, operand_p h x, operand_q h y, operand_p h y, (u_result h x y u).held);
    }

pub returns-then-common-eq1 : goal.returns-then-common-eq1
returns-then-common-eq1 c =
    coprime_multiplied c.args.s.now.admitted c.requires.0 c.requires.1 c.first_factor.ensures.first c.first_factor.ensures.gcd (omega arith) c.coprime.ensures.q c.coprime.ensures.p
