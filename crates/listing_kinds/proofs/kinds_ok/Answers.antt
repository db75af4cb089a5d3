use Rattle.std.proofs.Common.{arith}
use Rattle.std.proofs.lemmas.Grind.{common_steps}
use Rattle.spec_definitions.specs.Lookup.{record_at, record_count}
use Rattle.listing_kinds.specs.Passed.{right_by_record}
use Rattle.listing_kinds.proofs.kinds_ok.Goals as goal

pub returns : goal.returns
unfolding record_at record_count
returns c =
    let run = c.all.ensures.runs.0 in
    right_by_record _ _ _ _ (λ all k low. grind (arith, run.reads k c.args.listing.words), grind (arith, common_steps))
