-- Words that are read have the outcome of their run, those that are refused the number of their first refusal.
use Rattle.std.proofs.Common.{arith, sym, ◌∙◌, subst}
use Rattle.base_refusals.specs.Number.{number_some}
use Rattle.call_regulator.specs.Regulator.{IsReadAs, refused_outcome, accepted_outcome}
use Rattle.call_regulator.proofs.outcome_of.Goals as goal

pub returns-in-Ok : goal.returns-in-Ok
returns-in-Ok c w h =
    let k = subst (IsReadAs w) c.in-Ok.is h in
    accepted_outcome w {t = c.in-Ok.t} _ (record { passes = sym k.refused; ticket_is = k.read }) c.run.ensures

pub returns-in-Err : goal.returns-in-Err
returns-in-Err c w h =
    let k = subst (IsReadAs w) c.in-Err.is h in
    c.into.ensures ∙ refused_outcome w _ k.refused (λ e. omega (arith, number_some c.in-Err.refusal))
