use Rattle.std.proofs.Common.{rules}
use Rattle.base_places.specs.Places.{places_of}
use Rattle.base_places.proofs.linear.sub_places.Goals as goal

pub returns : goal.returns
returns c = places_of c.fill_places.ensures (λ i v h p. search rules) (λ i h. search rules)
