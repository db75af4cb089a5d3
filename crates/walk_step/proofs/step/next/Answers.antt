use Rattle.std.proofs.Common.{ℕ, List, get_or, rules, ap, ◌∙◌}
use Rattle.std.proofs.iter.Serving.{serving}
use Rattle.base_places.specs.Places.{places_of}
use Rattle.walk_short.specs.Step.{next_past}
use Rattle.walk_short.specs.Start.{divided}
use Rattle.walk_short.specs.Sizes.{quo_within, rem_within}
use Rattle.walk_short.specs.Quotient.{next_cong}
use Rattle.walk_step.proofs.step.next.Goals as goal

pub fill_places-requires-clause-called : goal.fill_places-requires-clause-called
fill_places-requires-clause-called c =
    let s = c.args.s.now in
    let p = s.field.is_field.0 in
    let w = quo_within p (divided s) c.requires.quotient in
    let r = rem_within p (divided s) s.sizes.1 c.requires.remainder in
    grind serving

pub returns : goal.returns
returns c =
    let s = c.args.s.now in
    let e = next_cong s.field.is_field.0 (divided s) c.args.a.now c.requires.quotient.at s.before.now c.args.remains.now c.requires.remainder.at in
    places_of c.fill_places.ensures (λ i v h e'. (search rules) ∙ ap (λ (l : List ℕ). get_or l i 0) e) (λ i h. next_past s.ready i h)
