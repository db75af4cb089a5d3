-- The inverse is below q, and Q is reduced.
use Rattle.std.proofs.Common.{arith}
use Rattle.walk_short.specs.Start.{divided}
use Rattle.walk_short.specs.Short.{inverse_less}
use Rattle.walk_short.proofs.quadratic.quadratic.Goals as goal

pub over_lead-h-requires : goal.over_lead-h-requires
over_lead-h-requires c =
    let s = c.args.s.now in
    (inverse_less s.field.is_field.0 (divided s) s.lead_inverse s.inverse, omega arith, s.ready.current_within.reduced)

pub over_lead-g-requires : goal.over_lead-g-requires
over_lead-g-requires c =
    let s = c.args.s.now in
    (inverse_less s.field.is_field.0 (divided s) s.lead_inverse s.inverse, omega arith, s.ready.current_within.reduced)
