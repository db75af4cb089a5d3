-- The 129 zeros are the record of the zero polynomial.
use Rattle.base_polynomial.specs.Linear.{is_zero}
use Rattle.base_polynomial.proofs.Poly.zero.Goals as goal

pub returns : goal.returns
returns c = is_zero
