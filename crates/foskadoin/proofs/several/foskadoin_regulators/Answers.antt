-- `foskadoin_regulators` meets its contract: the numbers of the engine's outcomes in the lent array, and T3 of
-- them.
use Rattle.std.proofs.Common.{◌∙◌}
use Rattle.call_regulators.specs.Regulators.{outcomes}
use Rattle.out_several.proofs.Least.{said_sixteen, places_said, least_places}
use Rattle.foskadoin.proofs.several.foskadoin_regulators.Goals as goal

pub put_outcomes-requires : goal.put_outcomes-requires
put_outcomes-requires c =
    let a = c.regulators in
    said_sixteen _ (outcomes a.result) a.ensures.says

pub returns : goal.returns
returns c =
    let a = c.regulators in
    let l = outcomes a.result in
    let out = c.put_outcomes.new.out in
    let count = c.put_outcomes.ensures.words_value.1 ∙ a.ensures.count in
    record {
      words = c.put_outcomes.ensures.words_value.0 ∙ a.ensures.words;
      count = count;
      says = places_said _ l a.ensures.says out c.put_outcomes.ensures.out_len.0 c.put_outcomes.ensures.out_len.1;
      least = least_places _ l a.ensures.says out c.put_outcomes.ensures.out_len.1 a.ensures.least _ count;
    }
