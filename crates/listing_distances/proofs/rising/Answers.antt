use Rattle.std.proofs.Common.{rules, arith, ◌≡◌, ℕ, ◌<◌, suc, ltb, slice_index_or, take, drop, ◌+◌, ◌*◌}
use Rattle.spec_definitions.specs.Lookup.{record_at, record_count}
use Rattle.listing_distances.specs.Distances.{rising_by_record, distance_of}
use Rattle.listing_distances.proofs.rising.Goals as goal

pub returns : goal.returns
unfolding record_at record_count
returns c =
    let listing = c.args.listing in
    let run = c.is_sorted_by.ensures.runs.0 in
    let items : (k : ℕ) → k < run.len → (slice_index_or run.items k listing.words).now ≡ take (listing.n + 4) (drop (k * (listing.n + 4)) listing.words.now) = λ k low. grind (arith, run.reads k listing.words) in
    let sorted = c.is_sorted_by.ensures.runs.2.1 (λ a b. ltb (distance_of a.now) (distance_of b.now)) (λ x y r f t. search rules) in
    rising_by_record _ _ _ _ (λ all k low. grind (arith, items k, items (suc k)), λ all. grind (arith, sorted))
