-- `foskadoin_ideal_at` meets its contract: the answer of the engine, with its polynomials in the lent arrays.
use Rattle.std.proofs.Common.{◌∙◌}
use Rattle.out_polynomials.specs.IdealsAt.{ideal_at_written}
use Rattle.foskadoin.proofs.at_distance.foskadoin_ideal_at.Goals as goal

pub returns : goal.returns
returns c =
    let a = c.ideal_at-a.ensures in
    let e = c.put_ideal_at.ensures in
    record { words = e.words ∙ a.words; says = ideal_at_written a.says e.number e.ideal_at e.zeros }
