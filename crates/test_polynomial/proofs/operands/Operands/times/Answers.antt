-- The two products are held.
use Rattle.base_polynomial.specs.Over.{result_mul}
use Rattle.test_polynomial.proofs.operands.Operands.times.Goals as goal

pub invariant_of-result : goal.invariant_of-result
invariant_of-result c =
    let r = c.requires in
    let held = c.args.self.now.held in
    record { held = ((result_mul held.0 r.held r.fits.0 c.multiply.ensures).held, (result_mul held.1 r.held r.fits.1 c.multiply-2.ensures).held) }
