-- The inverse is below q; the coefficients, each at its place, for the two passes.
use Rattle.std.proofs.Common.{◌≡◌, ◌-◌, arith, sym}
use Rattle.base_field.specs.Named.{name}
use Rattle.walk_short.specs.Step.{Quadratic}
use Rattle.walk_short.specs.Start.{divided}
use Rattle.walk_short.specs.Sizes.{quo_past}
use Rattle.walk_short.specs.Short.{inverse_less}
use Rattle.walk_short.proofs.linear.linear.Goals as goal
use Rattle.walk_short.proofs.linear.linear.Goals.{After-second}

pub over_lead-h-requires : goal.over_lead-h-requires
over_lead-h-requires c =
    let s = c.args.s.now in
    (inverse_less s.field.is_field.0 (divided s) s.lead_inverse s.inverse, omega arith, s.ready.current_within.reduced)

coefficients : (c : After-second) → Quadratic (name c.args.s.now.field) c.args.s.now.twice.now c.args.s.now.current.now c.args.s.now.rest.now c.second.result c.first.result 0
coefficients c =
    let s = c.args.s.now in
    let i : s.top - s.size ≡ 1 = omega arith in
    let j : s.top - s.size - 1 ≡ 0 = omega arith in
    (cc, cc, sym (quo_past s.field.is_field.0 (divided s) 2 (omega arith)))

pub remainder-requires-clause-quadratic : goal.remainder-requires-clause-quadratic
remainder-requires-clause-quadratic c = coefficients (goal.at.remainder-requires-clause-quadratic c).After-second

pub next-requires-clause-quadratic : goal.next-requires-clause-quadratic
next-requires-clause-quadratic c = coefficients (goal.at.next-requires-clause-quadratic c).After-second
