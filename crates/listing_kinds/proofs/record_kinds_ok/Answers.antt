use Rattle.std.proofs.Common.{rules}
use Rattle.std.proofs.iter.runs.Made.{chains}
use Rattle.listing_kinds.specs.Kinds.{has_kinds_by_place}
use Rattle.listing_kinds.proofs.record_kinds_ok.Goals as goal

pub returns : goal.returns
returns c = has_kinds_by_place _ _ _ c.requires.0 c.requires.1 (search (rules, chains))
