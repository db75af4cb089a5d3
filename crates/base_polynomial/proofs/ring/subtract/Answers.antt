-- The places of the difference and its size are the difference's record.
use Rattle.std.proofs.Common.{◌∙◌, arith}
use Rattle.base_places.specs.Zeros.{sub_zeros}
use Rattle.base_polynomial.specs.Held.{held_positive}
use Rattle.base_polynomial.specs.Linear.{held_within, is_sub}
use Rattle.base_polynomial.proofs.ring.subtract.Goals as goal

pub sub_places-requires-clause-within : goal.sub_places-requires-clause-within
sub_places-requires-clause-within c =
    (held_within _ _ _ _ c.requires.0 (omega arith), held_within _ _ _ _ c.requires.1 (omega arith))

pub top-z-requires-clause-by_index : goal.top-z-requires-clause-by_index
top-z-requires-clause-by_index c = λ i h.
    let x = held_within _ _ _ _ c.requires.0 (omega arith) in
    let y = held_within _ _ _ _ c.requires.1 (omega arith) in
    c.sub_places.ensures.at i ∙ sub_zeros c.args.f.q (held_positive _ _ _ c.requires.0) (x.past i h) (y.past i h)

pub returns : goal.returns
returns c =
    is_sub _ _ _ c.requires.0 _ _ c.top-z.ensures _ _ c.requires.1 c.sub_places.ensures
