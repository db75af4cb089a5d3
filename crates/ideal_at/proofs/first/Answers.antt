-- The places of 1 and of 0.
use Rattle.ideal_at.specs.First.{one_held}
use Rattle.ideal_at.proofs.first.Goals as goal

pub returns : goal.returns
returns c = (one_held c.zeros.ensures.0, c.zeros.ensures.1)
