-- What the two coefficients above leave at the next place, over the leading coefficient of Q.
use Rattle.std.proofs.Common.{ℕ, ◌+◌, ◌-◌, ◌*◌, ◌%◌, ◌≤◌, ◌<◌, mod-lt, mul-le-mul, arith, ap, ◌∙◌}
use Rattle.walk_short.specs.Sizes.{positive, quo_reduced}
use Rattle.walk_short.specs.Short.{third_at}
use Rattle.walk_short.proofs.coefficients.third.Goals as goal
use Rattle.walk_short.proofs.coefficients.third.Goals.{After-dividend_at-t}

above_less : (c : After-dividend_at-t) → (c.args.a1 < c.args.d.now.field.q) × (c.args.a2 < c.args.d.now.field.q)
above_less c =
    let p = c.args.d.now.field.is_field.0 in
    let d = c.args.d.now.division in
    (rw c.requires.a1_value (quo_reduced p d (c.args.d.now.top - c.args.d.now.size - 1)), rw c.requires.a2_value (quo_reduced p d (c.args.d.now.top - c.args.d.now.size)))

first : (c : After-dividend_at-t) → (c.args.d.now.field.q - c.args.a1) * c.args.h ≤ 4095 * 4095
first c =
    let h : c.args.h < c.args.d.now.field.q = rw c.requires.h_value (mod-lt _ (positive c.args.d.now.field.is_field.0 c.args.d.now.division)) in
    mul-le-mul {n₂ = 4095} {m₂ = 4095} (omega arith) (omega arith)

second : (c : After-dividend_at-t) → (c.args.d.now.field.q - c.args.a2) * c.args.g ≤ 4095 * 4095
second c =
    let g : c.args.g < c.args.d.now.field.q = rw c.requires.g_value (mod-lt _ (positive c.args.d.now.field.is_field.0 c.args.d.now.division)) in
    mul-le-mul {n₂ = 4095} {m₂ = 4095} (omega arith) (omega arith)

pub overflow_sub-q : goal.overflow_sub-q
overflow_sub-q c = omega (arith, (above_less (goal.at.overflow_sub-q c).After-dividend_at-t).0)

pub overflow_add-t : goal.overflow_add-t
overflow_add-t c = omega (arith, first (goal.at.overflow_add-t c).After-dividend_at-t)

pub overflow_sub-q-2 : goal.overflow_sub-q-2
overflow_sub-q-2 c = omega (arith, (above_less (goal.at.overflow_sub-q-2 c).After-dividend_at-t).1)

pub overflow_add-t-2 : goal.overflow_add-t-2
overflow_add-t-2 c = omega (arith, first (goal.at.overflow_add-t-2 c).After-dividend_at-t, second (goal.at.overflow_add-t-2 c).After-dividend_at-t)

pub returns : goal.returns
returns c =
    let q = c.args.d.now.field.q in
    c.reduce.ensures ∙ ap (λ (x : ℕ). (x + (q - c.args.a1) * c.args.h + (q - c.args.a2) * c.args.g) % q) c.dividend_at-t.ensures.value
    ∙ third_at c.args.d.now.field.is_field.0 c.args.d.now.division c.args.d.now.lead_inverse c.args.d.now.inverse c.args.a1 c.args.h c.requires.h_value c.args.a2 c.args.g c.requires.g_value c.requires.longer c.requires.a1_value c.requires.a2_value
