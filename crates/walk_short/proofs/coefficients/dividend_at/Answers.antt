-- The difference is at most 8,190, the inverse at most 4,095.
use Rattle.std.proofs.Common.{◌+◌, ◌-◌, ◌*◌, ◌≤◌, mul-le-mul, arith, get_or}
use Rattle.walk_short.specs.Short.{inverse_less}
use Rattle.walk_short.proofs.coefficients.dividend_at.Goals as goal

small : (c : goal.After-result-2-1) → (get_or c.args.d.now.twice.now c.args.k 0 + (c.args.d.now.field.q - get_or c.args.d.now.rest.now c.args.k 0)) * c.args.d.now.lead_inverse ≤ 33538050
small c =
    let d = c.args.d.now in
    let i = inverse_less d.field.is_field.0 d.division d.lead_inverse d.inverse in
    let h = d.division.twice_within.reduced c.args.k in
    mul-le-mul {n₂ = 8190} {m₂ = 4095} (omega arith) (omega arith)

pub overflow_mul-result : goal.overflow_mul-result
overflow_mul-result c = omega (arith, small c)

pub returns-clause-upper_bound : goal.returns-clause-upper_bound
returns-clause-upper_bound c = small c
