-- The multiple by the inverse of the leading coefficient, with its size.
use Rattle.std.proofs.Common.{◌∙◌, arith}
use Rattle.base_places.specs.Zeros.{scale_zero}
use Rattle.base_places.specs.Held.{held_positive}
use Rattle.base_polynomial.specs.Linear.{held_within}
use Rattle.base_polynomial.specs.Monic.{lead_inverse_less, is_monic}
use Rattle.base_polynomial.proofs.ring.monic_by.Goals as goal

pub scale_places-requires-clause-n_bound : goal.scale_places-requires-clause-n_bound
scale_places-requires-clause-n_bound c =
    (c.requires.0.short, lead_inverse_less _ c.requires.0 c.requires.1)

pub scale_places-requires-clause-within : goal.scale_places-requires-clause-within
scale_places-requires-clause-within c = held_within _ _ _ _ c.requires.0 (omega arith)

pub top-g-requires-clause-by_index : goal.top-g-requires-clause-by_index
top-g-requires-clause-by_index c = λ i l.
    let h = c.requires.0 in
    c.scale_places.ensures.at i ∙ scale_zero c.args.f.q (held_positive _ _ _ h) c.args.w ((held_within _ _ _ _ h (omega arith)).past i l)

pub returns : goal.returns
returns c =
    is_monic _ c.requires.0 c.requires.1 _ _ c.top-g.ensures c.scale_places.ensures
