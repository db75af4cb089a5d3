use Rattle.std.proofs.Common.{arith}
use Rattle.base_division.specs.Difference.{difference_of_passed}
use Rattle.base_division.proofs.difference.subtract_many.Goals as goal

pub returns : goal.returns
returns c =
    let l = c.loop-i in
    difference_of_passed c.args.f.q (omega arith) c.requires.within c.requires.fits.0.0 c.requires.fits.1.0 l.v l.i (omega arith) (omega arith) l.invariant
