-- `unit` meets its contract: a refused ticket leaves the lists as they are, any other goes to `unit_of`; T3
-- of the lists follows from what is said and written.
use Rattle.std.proofs.Common.{refl, arith, sym, ◌∙◌}
use Rattle.base_refusals.specs.Number.{number_some}
use Rattle.call_regulator.specs.Regulator.{refused_outcome, accepted_outcome}
use Rattle.call_unit.specs.Unit.{kept_refused, words_answer, least_written}
use Rattle.call_unit.proofs.unit.Goals as goal

pub returns-in-Ok : goal.returns-in-Ok
returns-in-Ok c =
    let a = accepted_outcome _ {t = c.in-Ok.t} _ (record { passes = sym c.in-Ok.ensures.refused; ticket_is = c.in-Ok.ensures.read }) refl in
    let r = words_answer _ _ _ _ _ _ c.in-Ok.ensures.read a c.unit_of-outcome.ensures in
    record {
      words = refl;
      says = r.says;
      lists = r.lists_are;
      least = least_written _ _ _ _ r;
    }

pub returns-in-Err : goal.returns-in-Err
returns-in-Err c =
    let e = c.into-outcome.ensures ∙ refused_outcome _ _ c.in-Err.ensures.refused (λ e. omega (arith, number_some c.in-Err.refusal)) in
    let r = words_answer _ _ _ _ _ _ refl e (kept_refused _ _ _ _ c.into-outcome.ensures) in
    record {
      words = refl;
      says = r.says;
      lists = r.lists_are;
      least = least_written _ _ _ _ r;
    }
