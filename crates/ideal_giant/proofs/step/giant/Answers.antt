-- The product is where the reduction starts; f is minus what the degrees of the reduced pair fall short.
use Rattle.std.proofs.Common.{arith, ◌≤◌, ◌∙◌, w64, to_z-of_z}
use Rattle.ideal_giant.specs.Signed.{two_distances}
use Rattle.ideal_giant.specs.Stepped.{start_of, s_bounds, q_most, most, lower_most, stepped}
use Rattle.ideal_giant.proofs.step.giant.Goals as goal
use Rattle.ideal_giant.proofs.step.giant.Goals.{After-lower-less}

pub reduce-sum-requires : goal.reduce-sum-requires
reduce-sum-requires c = let o = c.requires.operands in start_of c.args.r.now.surd o.0 o.1 c.product.ensures

pub lower-less-requires : goal.lower-less-requires
lower-less-requires c =
    let o = c.requires.operands in
    let m = c.product.ensures in
    let g = c.args.r.now.surd.admitted.genus_most in
    let i = s_bounds c.args.r.now.surd o.0 o.1 m in
    let j = q_most c.args.r.now.surd o.0 o.1 m in
    (omega arith, i.0, omega arith, most c.args.r.now.surd o.0 o.1 m c.reduce-sum.ensures)

less_most : (c : After-lower-less) → c.lower-less.result ≤ two_distances
less_most c =
    let o = c.requires.operands in
    let l = lower_most c.args.r.now.surd o.0 o.1 c.product.ensures c.reduce-sum.ensures in
    let e = c.lower-less.ensures in
    omega arith

pub signed-requires : goal.signed-requires
signed-requires c = (omega arith, less_most (goal.at.signed-requires c).After-lower-less)

pub overflow_add-d1 : goal.overflow_add-d1
overflow_add-d1 c = let d = c.requires.distances in omega (arith, d.0, d.1)

pub signed-requires-2 : goal.signed-requires-2
signed-requires-2 c = let d = c.requires.distances in (omega (arith, d.0, d.1), less_most (goal.at.signed-requires-2 c).After-lower-less)

pub returns : goal.returns
returns c =
    let o = c.requires.operands in
    stepped c.args.r.now.surd o.0 o.1 c.product.ensures c.reduce-sum.ensures c.lower-less.ensures (to_z-of_z {w = w64} (record { sfits = c.signed.type_inv }) ∙ c.signed.ensures) (to_z-of_z {w = w64} (record { sfits = c.signed-2.type_inv }) ∙ c.signed-2.ensures)
