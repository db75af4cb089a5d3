use Rattle.std.proofs.Common.{sym, arith}
use Rattle.listing_kinds.specs.Kinds.{kind_q, kind_p}
use Rattle.listing_kinds.proofs.record_kind.Goals as goal

pub returns-in-5-to-max : goal.returns-in-5-to-max
returns-in-5-to-max c = sym (kind_q _ c.requires.0 _ (omega arith) (omega arith))

pub returns-in-5-to-max-2 : goal.returns-in-5-to-max-2
returns-in-5-to-max-2 c = sym (kind_p _ c.requires.0 _ (omega arith) (omega arith))
