-- A pair that is refused is a wrong one, and the second decides past the first.
use Rattle.call_product.specs.Operands.{passed_on, first_decides, second_decides}
use Rattle.call_product.proofs.operands.read_ideals.Goals as goal

pub returns-in_err-read_ideal-clause-refused : goal.returns-in_err-read_ideal-clause-refused
returns-in_err-read_ideal-clause-refused c b =
    passed_on _ _ c.from_residual.ensures.1 (first_decides c.args.s.now _ _ b _ (c.in_err-read_ideal.ensures.refused b))

pub returns-clause-refused : goal.returns-clause-refused
returns-clause-refused c b =
    second_decides c.args.s.now _ _ b c.in_ok-read_ideal.ensures.ideal _ _ (c.read_ideal-2.ensures.refused b) c.read_ideal-2.ensures.ideal
