-- `foskadoin_regulator` meets its contract: the numbers of the engine's outcome, and T3 of them.
use Rattle.std.proofs.Common.{sym, ◌∙◌}
use Rattle.spec_demands.proofs.Numbered.{t1_numbers}
use Rattle.out_numbers.proofs.NumberLaws.{plain_same}
use Rattle.out_numbers.proofs.Least.{least_plain}
use Rattle.foskadoin.proofs.foskadoin_regulator.Goals as goal

pub returns : goal.returns
returns c =
    record {
      words = c.into.ensures.0 ∙ c.regulator.ensures.words;
      says = plain_same c.regulator.ensures.says c.into.ensures.1;
      least = least_plain _ _ (t1_numbers.0 _ _ (sym c.regulator.ensures.says)) c.into.ensures.1 c.regulator.ensures.least;
    }
