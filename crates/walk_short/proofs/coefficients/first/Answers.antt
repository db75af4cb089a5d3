-- What stands at the top place over the leading coefficient of Q.
use Rattle.std.proofs.Common.{ℕ, ◌%◌, ap, ◌∙◌}
use Rattle.walk_short.specs.Short.{first_at}
use Rattle.walk_short.proofs.coefficients.first.Goals as goal

pub returns : goal.returns
returns c =
    c.reduce.ensures ∙ ap (λ (t : ℕ). t % c.args.d.now.field.q) c.dividend_at.ensures.value ∙ first_at c.args.d.now.field.is_field.0 c.args.d.now.division c.args.d.now.lead_inverse c.args.d.now.inverse (c.args.d.now.sizes.1)
