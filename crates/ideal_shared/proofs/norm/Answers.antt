-- Both quotients are held, and no longer than Q_1 and Q_2.
use Rattle.std.proofs.Common.{arith, ap₂}
use Rattle.spec_arithmetic.specs.Polynomials.{mul}
use Rattle.base_field.specs.Named.{ops}
use Rattle.base_polynomial.specs.Result.{result_quo, size_quo}
use Rattle.ideal_operand.specs.Difference.{is_path}
use Rattle.ideal_shared.proofs.norm.Goals as goal

pub multiply-requires : goal.multiply-requires
multiply-requires c =
    let h = c.requires.held in
    let x = size_quo _ _ _ h.0 _ _ h.2 _ _ c.quotient.ensures in
    let y = size_quo _ _ _ h.1 _ _ h.2 _ _ c.quotient-2.ensures in
    record {
      fits = omega arith;
      held = ((result_quo _ _ _ h.0 _ _ h.2 _ _ (omega arith) c.quotient.ensures).held, (result_quo _ _ _ h.1 _ _ h.2 _ _ (omega arith) c.quotient-2.ensures).held);
    }

pub returns : goal.returns
returns c =
    let h = c.requires.held in
    record {
      first = c.quotient.ensures;
      norm = is_path (ap₂ (mul (ops c.args.f)) (result_quo _ _ _ h.0 _ _ h.2 _ _ (omega arith) c.quotient.ensures).is (result_quo _ _ _ h.1 _ _ h.2 _ _ (omega arith) c.quotient-2.ensures).is) c.multiply.ensures;
    }
