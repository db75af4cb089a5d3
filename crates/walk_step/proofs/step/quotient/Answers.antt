use Rattle.std.proofs.Common.{ℕ, ◌+◌, ◌-◌, ◌*◌, ◌%◌, ◌≤◌, ◌<◌, mul-le-mul, arith, ap, ◌∙◌}
use Rattle.spec_arithmetic.specs.Field.{modulo}
use Rattle.spec_arithmetic.specs.Polynomials.{sub, mul}
use Rattle.spec_bridge.specs.Arithmetic.{oks_sub}
use Rattle.spec_bridge.specs.Residues.{model, inverse_lt}
use Rattle.base_places.specs.Places.{length_zeros, at_zeros}
use Rattle.base_places.specs.Down.{down_none, down_more}
use Rattle.walk_short.specs.Sizes.{positive, quo_past, quo_within_down}
use Rattle.walk_short.specs.Quotient.{quo_at}
use Rattle.walk_step.proofs.step.quotient.Goals as goal

pub loop-k-init : goal.loop-k-init
loop-k-init c =
    let p = c.args.f.is_field.0 in
    let d = c.requires.division in
    down_none _ _ _ length_zeros (λ i h. at_zeros i) (quo_past p d)

pub rest_at-v-requires-clause-within : goal.rest_at-v-requires-clause-within
rest_at-v-requires-clause-within c =
    let l = c.loop-k in
    (quo_within_down c.args.f.is_field.0 c.requires.division l.a l.k (omega arith) l.invariant, λ i h. l.invariant.rest i (omega arith))

pub overflow_mul-v : goal.overflow_mul-v
overflow_mul-v c =
    let p = c.args.f.is_field.0 in
    let d = c.requires.division in
    let q = c.args.f.q in
    let pos = positive p d in
    let v : c.rest_at-v.result < q = rw c.rest_at-v.ensures (oks_sub (model q pos) (sub (modulo q) c.args.twice.now c.args.rest.now) (mul (modulo q) c.loop-k.a c.args.current.now) _) in
    let u : c.args.lead_inverse < q = rw c.requires.lead_inverse_value (inverse_lt q pos _) in
    let small : c.rest_at-v.result * c.args.lead_inverse ≤ 4095 * 4095 = mul-le-mul {n₂ = 4095} {m₂ = 4095} (omega arith) (omega arith) in
    omega arith

pub loop-k-preserved : goal.loop-k-preserved
loop-k-preserved c =
    let p = c.args.f.is_field.0 in
    let d = c.requires.division in
    let l = c.loop-k in
    let v = c.rest_at-v.result in
    down_more _ l.a l.k (l.k - 1) _ l.invariant (omega arith) (omega arith)
    (c.reduce.ensures ∙ ap (λ (u : ℕ). (v * u) % c.args.f.q) c.requires.lead_inverse_value ∙ quo_at p d l.a (l.k - 1) (λ i h. l.invariant.done i (omega arith)) (λ i h. l.invariant.rest i (omega arith)) (l.k - 1 + c.args.size - 1) v (omega arith) c.rest_at-v.ensures)
