-- `foskadoin_listing` meets its contract: the numbers of the engine's outcome, T3 of them, and the list as
-- the engine leaves it.
use Rattle.std.proofs.Common.{sym, ◌∙◌}
use Rattle.spec_demands.proofs.Numbered.{t1_numbers}
use Rattle.out_numbers.proofs.NumberLaws.{plain_same}
use Rattle.out_numbers.proofs.Least.{least_plain}
use Rattle.foskadoin.proofs.foskadoin_listing.Goals as goal

pub returns : goal.returns
returns c =
    record {
      words = c.into.ensures.0 ∙ c.listing.ensures.words;
      says = plain_same c.listing.ensures.says c.into.ensures.1;
      list = c.listing.ensures.list;
      least = least_plain _ _ (t1_numbers.2 _ _ _ (sym c.listing.ensures.says)) c.into.ensures.1 c.listing.ensures.least;
    }
