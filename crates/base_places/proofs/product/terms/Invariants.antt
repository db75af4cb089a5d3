-- The sum is the first i terms of the coefficient. The terms left out at both ends are 0.
use Rattle.std.proofs.Common.{◌≡◌, ◌≤◌, ◌+◌}
use Rattle.spec_bridge.specs.Product.{dots}
use Rattle.base_places.proofs.product.terms.Given as goal

abbrev pub invariant-loop-i : goal.invariant-loop-i
invariant-loop-i l = (l.i ≤ l.k + 1) × (l.sum ≡ dots l.x l.y l.k l.i)
