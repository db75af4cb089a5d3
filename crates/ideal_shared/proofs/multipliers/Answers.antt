-- The sum is held, and both factors of U are short.
use Rattle.std.proofs.Common.{arith}
use Rattle.ideal_shared.proofs.MultiplierLaws.{sum_result, second_result, U_fits, S_is, U_is, W_is}
use Rattle.ideal_shared.proofs.multipliers.Goals as goal

pub bezout-requires : goal.bezout-requires
bezout-requires c =
    let h = c.requires.held in
    (h.0, (sum_result c.args.f.is_field.0 h.0 h.2 h.3 c.add.ensures).held)

pub multiply-requires : goal.multiply-requires
multiply-requires c =
    let h = c.requires.held in
    record {
      fits = U_fits c.args.f.is_field.0 h.0 h.2 h.3 c.add.ensures c.bezout.ensures.first c.args.y.now (omega arith) (omega arith) (omega arith);
      held = ((second_result c.args.f.is_field.0 h.0 h.2 h.3 c.add.ensures c.bezout.ensures.first).held, h.1);
    }

pub returns : goal.returns
returns c =
    let h = c.requires.held in
    record {
      common = S_is c.args.f.is_field.0 h.0 h.2 h.3 c.add.ensures c.bezout.ensures.gcd;
      first = U_is c.args.f.is_field.0 h.0 h.2 h.3 c.add.ensures c.bezout.ensures.first c.args.y.now c.multiply.ensures;
      last = W_is c.args.f.is_field.0 h.0 h.2 h.3 c.add.ensures c.bezout.ensures.second;
    }
