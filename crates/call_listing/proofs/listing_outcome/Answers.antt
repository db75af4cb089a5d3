-- A refused ticket leaves the list as it is, any other goes to `listing_of`.
use Rattle.std.proofs.Common.{refl, sym, arith, ◌∙◌, subst}
use Rattle.base_refusals.specs.Number.{number_some}
use Rattle.call_regulator.specs.Regulator.{IsReadAs, refused_outcome, accepted_outcome}
use Rattle.call_listing.specs.Listing.{kept_refused, words_answer}
use Rattle.call_listing.proofs.listing_outcome.Goals as goal

pub returns-in-Ok : goal.returns-in-Ok
returns-in-Ok c w h =
    let k = subst (IsReadAs w) c.in-Ok.is h in
    words_answer w _ _ _ _ _ k.read (accepted_outcome w {t = c.in-Ok.t} _ (record { passes = sym k.refused; ticket_is = k.read }) refl) c.listing_of.ensures

pub returns-in-Err : goal.returns-in-Err
returns-in-Err c w h =
    let k = subst (IsReadAs w) c.in-Err.is h in
    words_answer w _ _ _ _ _ refl (c.into.ensures ∙ refused_outcome w _ k.refused (λ e. omega (arith, number_some c.in-Err.refusal))) (kept_refused _ _ _ _ c.into.ensures)
