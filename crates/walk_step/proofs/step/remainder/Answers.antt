use Rattle.std.proofs.Common.{arith, rules}
use Rattle.std.proofs.iter.Serving.{serving}
use Rattle.base_places.specs.Places.{places_of}
use Rattle.walk_short.specs.Start.{divided}
use Rattle.walk_short.specs.Sizes.{rem_past, quo_within}
use Rattle.walk_short.specs.Quotient.{rem_at}
use Rattle.walk_step.proofs.step.remainder.Goals as goal

pub fill_places-requires-clause-called : goal.fill_places-requires-clause-called
fill_places-requires-clause-called c =
    let s = c.args.s.now in
    let d = divided s in
    let w = quo_within s.field.is_field.0 d c.requires in
    grind serving

pub returns : goal.returns
returns c =
    let s = c.args.s.now in
    let p = s.field.is_field.0 in
    places_of c.fill_places.ensures (λ i v h e. rem_at p (divided s) c.args.a.now c.requires.at i v (search rules)) (λ i h. rem_past p (divided s) i (omega arith))
