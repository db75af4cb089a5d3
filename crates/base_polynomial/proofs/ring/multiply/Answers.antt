-- The places are those of the product; its size is found from the top.
use Rattle.std.proofs.Common.{◌∙◌, arith}
use Rattle.base_places.specs.Dots.{mul_past}
use Rattle.base_polynomial.specs.Held.{held_positive}
use Rattle.base_polynomial.specs.Linear.{held_within}
use Rattle.base_polynomial.specs.Product.{is_mul}
use Rattle.base_polynomial.proofs.ring.multiply.Goals as goal

pub mul_places-requires-clause-within : goal.mul_places-requires-clause-within
mul_places-requires-clause-within c =
    (held_within _ _ _ _ c.requires.held.0 (omega arith), held_within _ _ _ _ c.requires.held.1 (omega arith))

pub top-z-requires-clause-by_index : goal.top-z-requires-clause-by_index
top-z-requires-clause-by_index c = λ i h.
    let x = c.args.x.now.size in
    let y = c.args.y.now.size in
    let a = held_within _ _ _ x c.requires.held.0 (omega arith) in
    let b = held_within _ _ _ y c.requires.held.1 (omega arith) in
    c.mul_places.ensures.at i ∙ mul_past _ (held_positive _ _ _ c.requires.held.0) _ _ x y a.past b.past i (omega arith)

pub returns : goal.returns
returns c =
    is_mul _ _ _ c.requires.held.0 _ _ c.requires.held.1 _ _ c.top-z.ensures c.mul_places.ensures
