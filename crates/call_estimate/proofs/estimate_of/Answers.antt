-- A refusal's number is the ticket's; above the limits it is 15; else the fraction is the definition's, and each element
-- counts once at most.
use Rattle.std.proofs.Common.{arith, rules, ◌∙◌, ⊎_elim, inl, inr}
use Rattle.call_estimate.specs.Estimates.{small, answer_refused, answer_large, answer_done}
use Rattle.call_estimate.proofs.estimate_of.Goals as goal

pub returns-in_err-surd : goal.returns-in_err-surd
returns-in_err-surd c =
    let e = answer_refused _ _ c.in_err-surd.ensures.refused in
    search (rules, e)

pub returns-then-surd-gt-MOST_ELEMENTS : goal.returns-then-surd-gt-MOST_ELEMENTS
returns-then-surd-gt-MOST_ELEMENTS c =
    answer_large _ c.in_ok-surd.ensures.refused c.in_ok-surd.ensures.read (⊎_elim (λ q. inl q) (λ n. inr n.1) c.then-surd-gt-MOST_ELEMENTS.either)

pub fraction-requires : goal.fraction-requires
fraction-requires c =
    let s = c.in_ok-surd.field-0.surd in
    small s.field.is_field.1 (omega arith) s.degree_two (omega arith) s.admitted c.count_values-counts.ensures

pub returns : goal.returns
returns c =
    c.fraction.ensures ∙ answer_done _ c.in_ok-surd.ensures.refused c.in_ok-surd.ensures.read (omega arith) (omega arith) c.count_values-counts.ensures
