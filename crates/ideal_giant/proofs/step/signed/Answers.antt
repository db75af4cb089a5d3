-- Both numbers and their difference fit 64 signed bits.
use Rattle.ideal_giant.specs.Signed.{difference_fits, difference_is}
use Rattle.ideal_giant.proofs.step.signed.Goals as goal

pub overflow_sub-result : goal.overflow_sub-result
overflow_sub-result c = difference_fits _ _ c.requires.0 c.requires.1

pub returns : goal.returns
returns c = difference_is _ _ c.requires.0 c.requires.1
