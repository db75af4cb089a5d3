-- The coefficients below k are the remainder's, and y and z are the coefficients of b at the two places before k.
use Rattle.std.proofs.Common.{◌≡◌, get_or}
use Rattle.spec_bridge.specs.Product.{shifted}
use Rattle.base_places.specs.Places.{Filled}
use Rattle.walk_short.specs.Start.{rem}
use Rattle.walk_short.proofs.passes.remainder.Given as goal

abbrev pub invariant-loop-k : goal.invariant-loop-k
invariant-loop-k g l = (l.y ≡ shifted l.s.current.now 1 l.k) × (l.z ≡ shifted l.s.current.now 2 l.k) × Filled l.remains (λ i. get_or (rem l.s) i 0) l.k
