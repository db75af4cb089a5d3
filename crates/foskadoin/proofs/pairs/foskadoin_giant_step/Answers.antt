-- `foskadoin_giant_step` meets its contract: the answer of the engine, with its polynomials in the lent arrays.
use Rattle.std.proofs.Common.{◌∙◌}
use Rattle.out_polynomials.specs.GiantSteps.{giant_step_written}
use Rattle.foskadoin.proofs.pairs.foskadoin_giant_step.Goals as goal

pub returns : goal.returns
returns c =
    let a = c.giant_step-a.ensures in
    let e = c.put_giant_step.ensures in
    record { words = e.words ∙ a.words; says = giant_step_written a.says e.number e.giant_step e.zeros }
