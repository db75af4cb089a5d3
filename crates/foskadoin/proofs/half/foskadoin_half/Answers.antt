-- `foskadoin_half` meets its contract: the numbers of the engine's outcome, and T3 of them.
use Rattle.std.proofs.Common.{sym, ◌∙◌}
use Rattle.spec_half.proofs.HalfWalk.{t1_half_numbers}
use Rattle.out_numbers.proofs.NumberLaws.{plain_same}
use Rattle.out_half.proofs.Least.{least_half_plain}
use Rattle.foskadoin.proofs.half.foskadoin_half.Goals as goal

pub returns : goal.returns
returns c =
    record {
      words = c.half_numbers.ensures.words ∙ c.half.ensures.words;
      says = plain_same c.half.ensures.says c.half_numbers.ensures.says;
      least = least_half_plain _ _ (t1_half_numbers _ _ (sym c.half.ensures.says)) c.half_numbers.ensures.says c.half.ensures.least;
    }
