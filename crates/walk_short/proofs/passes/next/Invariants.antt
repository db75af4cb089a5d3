-- The coefficients below k are the next Q's, and y and z are next r − r at the two places before k, with q added.
use Rattle.std.proofs.Common.{◌+◌, ◌-◌, ◌≡◌, get_or}
use Rattle.spec_bridge.specs.Product.{shifted}
use Rattle.base_places.specs.Places.{Filled}
use Rattle.walk_short.specs.Start.{after}
use Rattle.walk_short.proofs.passes.next.Given as goal

abbrev pub invariant-loop-k : goal.invariant-loop-k
invariant-loop-k g l =
    (l.y ≡ shifted l.remains 1 l.k + (l.q - shifted l.s.rest.now 1 l.k)) × (l.z ≡ shifted l.remains 2 l.k + (l.q - shifted l.s.rest.now 2 l.k)) × Filled l.after (λ i. get_or (after l.s) i 0) l.k
