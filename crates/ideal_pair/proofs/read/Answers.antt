-- The words stand in their places, with zeros behind them; the size found is that of the trimmed list.
use Rattle.std.proofs.Common.{◌∙◌, sym, List, ℕ}
use Rattle.std.proofs.Math.ListN.{get_or-eq_default}
use Rattle.spec_bridge.specs.Trim.{trim_idem, at_trim}
use Rattle.spec_bridge.specs.Residues.{model}
use Rattle.spec_laws.specs.Admitted.{below_of}
use Rattle.base_polynomial.specs.Linear.{is_result}
use Rattle.ideal_pair.specs.Pair.{words_places}
use Rattle.ideal_pair.proofs.read.Goals as goal

pub top-r-requires-clause-by_index : goal.top-r-requires-clause-by_index
top-r-requires-clause-by_index c i h =
    (words_places c.copy_from_slice.ensures.after c.requires).at i ∙ get_or-eq_default c.args.words.now 0 {n = i} h

pub returns : goal.returns
returns c f zero below =
    let w : List ℕ = c.args.words.now in
    let p = words_places c.copy_from_slice.ensures.after c.requires in
    is_result f.q zero _ _ _ (trim_idem (model f.q zero) w) (record { long = p.long; at = λ i. p.at i ∙ sym (at_trim (model f.q zero) w (below_of f zero w below) i) }) c.top-r.ensures
