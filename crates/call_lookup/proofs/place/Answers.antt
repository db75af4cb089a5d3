use Rattle.std.proofs.Common.{ap, ◌∙◌, not, rules, ◌≡◌, true, false}
use Rattle.spec_definitions.specs.Lookup.{wrong_listing}
use Rattle.call_lookup.specs.Refusal.{of_records, right_records}
use Rattle.call_lookup.specs.Part.{refused, found}
use Rattle.call_lookup.proofs.place.Goals as goal

pub returns-then-not-records_ok : goal.returns-then-not-records_ok
returns-then-not-records_ok c =
    let listing = c.in_ok-listing.listing in
    let e = c.in_ok-listing.ensures in
    let w : right_records listing.words.now listing.n ≡ false = search rules in
    let h : wrong_listing c.args.list.now c.args.n ≡ true = rw (← ap (λ b. b.now) e.0, ← e.1) (of_records listing.words.now listing.n listing.is_whole ∙ ap not w) in
    refused _ _ _ h

pub returns : goal.returns
returns c =
    let listing = c.in_ok-listing.listing in
    let e = c.in_ok-listing.ensures in
    let w : right_records listing.words.now listing.n ≡ true = search rules in
    rw (← ap (λ b. b.now) e.0, ← e.1) (found listing.words.now listing.n c.args.y.0 _ (of_records listing.words.now listing.n listing.is_whole ∙ ap not w) c.last_within.ensures.last c.last_within.ensures.fits)
