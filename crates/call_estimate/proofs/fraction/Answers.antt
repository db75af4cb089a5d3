-- Each power fits, so that the numerator and the denominator are the definition's.
use Rattle.std.proofs.Common.{ℕ, ◌*◌, ◌^◌, ◌<◌, sym, ap₂, ◌∙◌, subst}
use Rattle.call_estimate.specs.Estimates.{fits_path, fraction_fits, numerator_is, denominator_is, numerator_fits, denominator_fits, first_fits, second_fits, fraction_said}
use Rattle.call_estimate.proofs.fraction.Goals as goal

pub pow-numerator-requires : goal.pow-numerator-requires
pow-numerator-requires c = numerator_fits c.requires

pub pow-first-requires : goal.pow-first-requires
pow-first-requires c = first_fits c.requires

pub pow-second-requires : goal.pow-second-requires
pow-second-requires c = second_fits c.requires

pub overflow_mul-denominator : goal.overflow_mul-denominator
overflow_mul-denominator c =
    record { fits = subst (λ (k : ℕ). k < 2 ^ 64) (sym (ap₂ ◌*◌ c.pow-first.ensures c.pow-second.ensures)) (denominator_fits c.requires) }

pub nearest-requires : goal.nearest-requires
nearest-requires c =
    let n = c.pow-numerator.ensures ∙ numerator_is c.requires in
    let d = ap₂ ◌*◌ c.pow-first.ensures c.pow-second.ensures ∙ denominator_is c.requires in
    fits_path n d (fraction_fits c.requires)

pub returns : goal.returns
returns c =
    let n = c.pow-numerator.ensures ∙ numerator_is c.requires in
    let d = ap₂ ◌*◌ c.pow-first.ensures c.pow-second.ensures ∙ denominator_is c.requires in
    fraction_said c.requires n d c.nearest.ensures
