-- The size is that of the places that were filled.
use Rattle.std.proofs.Common.{◌-◌, rules, arith, ⊎_elim}
use Rattle.math_ring.specs.Order.{le_or_lt}
use Rattle.base_places.specs.Places.{at_zeros}
use Rattle.base_polynomial.specs.Result.{held_top}
use Rattle.test_polynomial.proofs.sample.Goals as goal

pub loop-i-init : goal.loop-i-init
loop-i-init c = (search rules, search rules, λ k. (let e = at_zeros k in omega arith), λ k h. at_zeros k)

pub returns : goal.returns
returns c =
    let l = c.loop-i in
    let t = c.top.ensures in
    let size = c.top.result in (
      held_top _ _ _ l.invariant.1 l.invariant.2 t,
      ⊎_elim (λ h. h) (λ h. absurd (t.last (omega arith) (l.invariant.3 (size - 1) (omega arith)))) (le_or_lt size c.args.n),
    )
