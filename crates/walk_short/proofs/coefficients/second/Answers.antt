-- What the top coefficient leaves at the place below, over the leading coefficient of Q.
use Rattle.std.proofs.Common.{ℕ, ◌+◌, ◌-◌, ◌*◌, ◌%◌, ◌≤◌, ◌<◌, mod-lt, mul-le-mul, arith, ap, ◌∙◌}
use Rattle.walk_short.specs.Sizes.{positive, quo_reduced}
use Rattle.walk_short.specs.Short.{second_at}
use Rattle.walk_short.proofs.coefficients.second.Goals as goal
use Rattle.walk_short.proofs.coefficients.second.Goals.{After-dividend_at-t}

above_less : (c : After-dividend_at-t) → c.args.a1 < c.args.d.now.field.q
above_less c = rw c.requires.a1_value (quo_reduced c.args.d.now.field.is_field.0 c.args.d.now.division (c.args.d.now.top - c.args.d.now.size))

small : (c : After-dividend_at-t) → (c.args.d.now.field.q - c.args.a1) * c.args.h ≤ 4095 * 4095
small c =
    let h : c.args.h < c.args.d.now.field.q = rw c.requires.h_value (mod-lt _ (positive c.args.d.now.field.is_field.0 c.args.d.now.division)) in
    mul-le-mul {n₂ = 4095} {m₂ = 4095} (omega arith) (omega arith)

pub overflow_sub-q : goal.overflow_sub-q
overflow_sub-q c = omega (arith, above_less (goal.at.overflow_sub-q c).After-dividend_at-t)

pub overflow_add-t : goal.overflow_add-t
overflow_add-t c = omega (arith, small (goal.at.overflow_add-t c).After-dividend_at-t)

pub returns : goal.returns
returns c =
    c.reduce.ensures ∙ ap (λ (t : ℕ). (t + (c.args.d.now.field.q - c.args.a1) * c.args.h) % c.args.d.now.field.q) c.dividend_at-t.ensures.value
    ∙ second_at c.args.d.now.field.is_field.0 c.args.d.now.division c.args.d.now.lead_inverse c.args.d.now.inverse c.args.a1 c.args.h c.requires.h_value c.requires.longer c.requires.a1_value
