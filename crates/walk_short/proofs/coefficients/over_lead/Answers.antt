-- A coefficient of Q times the inverse is below 4,096².
use Rattle.std.proofs.Common.{◌*◌, ◌≤◌, ◌<◌, mul-le-mul, arith}
use Rattle.base_places.specs.TwoRows.{shifted_less}
use Rattle.walk_short.proofs.coefficients.over_lead.Goals as goal

pub overflow_mul-below : goal.overflow_mul-below
overflow_mul-below c =
    let f = c.args.f in
    let y : c.below.result < f.q = rw c.below.ensures (shifted_less f.q (omega arith) c.args.current.now c.requires.2 1 c.args.k) in
    let m : c.below.result * c.args.lead_inverse ≤ 4095 * 4095 = mul-le-mul {n₂ = 4095} {m₂ = 4095} (omega arith) (omega arith) in
    omega arith
