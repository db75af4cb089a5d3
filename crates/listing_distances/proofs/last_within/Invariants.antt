-- The record looked for is among those before k.
use Rattle.std.proofs.Common.{◌≡◌, ◌-◌}
use Rattle.spec_definitions.specs.Lookup.{last_within, record_count}
use Rattle.listing_distances.proofs.last_within.Given as goal

abbrev pub invariant-loop-k : goal.invariant-loop-k
invariant-loop-k l =
    last_within l.listing.words.now l.listing.n l.y.0 (record_count l.listing.words.now l.listing.n - 1) ≡ last_within l.listing.words.now l.listing.n l.y.0 (l.k - 1)
