-- The coefficient before k, by the two cases of a shift by one place.
use Rattle.std.proofs.Common.{◌≡◌, sym, ap, ◌∙◌, ◌+◌, ◌-◌, arith}
use Rattle.spec_bridge.specs.Product.{shifted, shifted_low, shifted_at}
use Rattle.base_places.proofs.product.below.Goals as goal

pub returns-then-k-gt0 : goal.returns-then-k-gt0
returns-then-k-gt0 c =
    let back : 1 + (c.args.k - 1) ≡ c.args.k = omega arith in
    sym (shifted_at c.args.b.now 1 (c.args.k - 1)) ∙ ap (shifted c.args.b.now 1) back

pub returns-else-k-gt0 : goal.returns-else-k-gt0
returns-else-k-gt0 c =
    sym (shifted_low c.args.b.now 1 c.args.k (omega arith))
