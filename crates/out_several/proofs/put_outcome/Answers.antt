-- Four stores, of the numbers that the outcome is as.
use Rattle.out_several.proofs.Places.{put_four}
use Rattle.out_several.proofs.put_outcome.Goals as goal

pub returns : goal.returns
returns c =
    put_four c.args.out.now c.args.i _ _ _ _ _ c.requires.1 c.requires.0 c.from-x.ensures.1
