use Rattle.std.proofs.Common.{rules, arith}
use Rattle.base_places.specs.Places.{places_of}
use Rattle.base_places.specs.Dots.{mul_past}
use Rattle.base_places.proofs.product.mul_places.Goals as goal

pub returns : goal.returns
returns c =
    let x = c.requires.within.0 in
    let y = c.requires.within.1 in
    let z = x.reduced 0 in
    places_of c.fill_places.ensures (λ i v h p. search rules) (λ i h. mul_past c.args.f.q (omega arith) _ _ c.args.m c.args.n x.past y.past i (omega arith))
