-- The places of the sum and its size are the sum's record.
use Rattle.std.proofs.Common.{◌∙◌, arith}
use Rattle.base_places.specs.Zeros.{add_zeros}
use Rattle.base_polynomial.specs.Held.{held_positive}
use Rattle.base_polynomial.specs.Linear.{held_within, is_add}
use Rattle.base_polynomial.proofs.ring.add.Goals as goal

pub add_places-requires-clause-within : goal.add_places-requires-clause-within
add_places-requires-clause-within c =
    (held_within _ _ _ _ c.requires.0 (omega arith), held_within _ _ _ _ c.requires.1 (omega arith))

pub top-z-requires-clause-by_index : goal.top-z-requires-clause-by_index
top-z-requires-clause-by_index c = λ i h.
    let x = held_within _ _ _ _ c.requires.0 (omega arith) in
    let y = held_within _ _ _ _ c.requires.1 (omega arith) in
    c.add_places.ensures.at i ∙ add_zeros c.args.f.q (held_positive _ _ _ c.requires.0) (x.past i h) (y.past i h)

pub returns : goal.returns
returns c =
    is_add _ _ _ c.requires.0 _ _ c.top-z.ensures _ _ c.requires.1 c.add_places.ensures
