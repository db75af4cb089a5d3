-- The records of the indices 1 to i are stored, and the walk stands at i.
use Rattle.std.proofs.Common.{◌≡◌}
use Rattle.listing_records.specs.Listed.{Listed}
use Rattle.listing_records.proofs.listing.write_records.Given as goal

abbrev pub invariant-loop-i : goal.invariant-loop-i
invariant-loop-i l =
    record {
      index_is : l.at.index.0 ≡ l.i;
      listed : Listed l.w.walk.now l.w.r.0 l.initial.out l.out l.before l.current l.rest l.at;
    }
