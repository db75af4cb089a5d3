use Rattle.ideal_at.specs.Digits.{digits_most}
use Rattle.ideal_at.proofs.digits.Goals as goal

pub returns : goal.returns
returns c = digits_most c.args.y.0 c.requires
