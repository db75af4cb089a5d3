-- `foskadoin_unit` meets its contract: the numbers of the engine's outcome, the lists as the engine leaves
-- them, and T3 of both.
use Rattle.std.proofs.Common.{sym, ◌∙◌}
use Rattle.spec_demands.proofs.Numbered.{t1_numbers}
use Rattle.out_numbers.proofs.NumberLaws.{plain_same}
use Rattle.out_numbers.proofs.Least.{least_in_lists}
use Rattle.foskadoin.proofs.foskadoin_unit.Goals as goal

pub returns : goal.returns
returns c =
    record {
      words = c.into.ensures.0 ∙ c.unit.ensures.words;
      says = plain_same c.unit.ensures.says c.into.ensures.1;
      lists = c.unit.ensures.lists;
      least = least_in_lists _ _ _ (t1_numbers.1 _ _ _ (sym c.unit.ensures.says)) c.into.ensures.1 c.unit.ensures.least;
    }
