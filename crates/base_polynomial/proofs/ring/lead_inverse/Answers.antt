-- The leading coefficient is one of the places, so it is below q.
use Rattle.base_polynomial.specs.Linear.{lead_place}
use Rattle.base_polynomial.proofs.ring.lead_inverse.Goals as goal

pub inverse-requires : goal.inverse-requires
inverse-requires c = rw (c.lead.ensures c.args.f c.requires, lead_place _ _ _ c.requires) (c.requires.reduced _)
