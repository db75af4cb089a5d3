use Rattle.std.proofs.Common.{rules, arith, ◌≡◌, ◌+◌, ◌*◌, ◌-◌, true, false, leb, refl, sym, ap, ◌∙◌, ℕ, take, drop}
use Rattle.spec_definitions.specs.Lookup.{record_at, record_count, last_within}
use Rattle.listing_distances.specs.Distances.{distance_of}
use Rattle.listing_distances.specs.Search.{last_found, last_below, last_first}
use Rattle.listing_distances.proofs.last_within.Goals as goal

pub loop-k-init : goal.loop-k-init
unfolding record_count
loop-k-init c = refl

pub returns-then-le-clause-last : goal.returns-then-le-clause-last
unfolding record_at
returns-then-le-clause-last c =
    let listing = c.args.listing in
    let s = listing.n + 4 in
    let k = c.loop-k.k - 1 in
    let size : k * s + s - k * s ≡ s = omega arith in
    let same = c.distance_of.ensures ∙ ap (λ (m : ℕ). distance_of (take m (drop (k * s) listing.words.now))) size in
    let e : leb c.distance_of.result.0 c.args.y.0 ≡ true = search rules in
    sym (c.loop-k.invariant ∙ last_found listing.words.now listing.n c.args.y.0 k (omega arith) (ap (λ (d : ℕ). leb d c.args.y.0) (sym same) ∙ e))

pub loop-k-preserved : goal.loop-k-preserved
unfolding record_at
loop-k-preserved c =
    let listing = c.args.listing in
    let s = listing.n + 4 in
    let k = c.loop-k.k - 1 in
    let size : k * s + s - k * s ≡ s = omega arith in
    let same = c.distance_of.ensures ∙ ap (λ (m : ℕ). distance_of (take m (drop (k * s) listing.words.now))) size in
    let e : leb c.distance_of.result.0 c.args.y.0 ≡ false = search rules in
    c.loop-k.invariant ∙ last_below listing.words.now listing.n c.args.y.0 k (omega arith) (ap (λ (d : ℕ). leb d c.args.y.0) (sym same) ∙ e)

pub returns-clause-last : goal.returns-clause-last
returns-clause-last c =
    let listing = c.args.listing in
    let first : c.loop-k.k - 1 ≡ 0 = omega arith in
    sym (c.loop-k.invariant ∙ ap (last_within listing.words.now listing.n c.args.y.0) first ∙ last_first _ _ _)
