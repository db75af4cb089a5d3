-- The outcome of half the walk of words that are read as a ticket or refused; what T3 says of an outcome that is said
-- as the definitions say it.
use Rattle.std.specs.Prelude.{ℕ, zero, suc, ◌≡◌, refl, List, Result}
use Rattle.std.proofs.Common.{sym, ◌∙◌}
use Rattle.std.proofs.Math.Path.{ap, subst}
use Rattle.spec_definitions.specs.Ticket.{refusal_of}
use Rattle.spec_half.specs.Half.{HalfOutcome, half_refused, half_said, half_of, words_half, half_answer}
use Rattle.spec_half.proofs.Half.{half_said_injective}
use Rattle.spec_half.specs.HalfWalk.{LeastHalf}
use Rattle.spec_half.proofs.HalfWalk.{past_half, t3_half}
use Rattle.spec_half.proofs.HalfWalk as demands
use Rattle.base_refusals.specs.declared.Refusal.{Refusal}
use Rattle.base_surd.specs.Surd.{ticket_with}
use Rattle.ticket_read.specs.declared.Ticket as code
use Rattle.ticket_read.specs.Accepted.{Accepted}
use Rattle.call_regulator.specs.Regulator.{IsReadAs}

-- x is the outcome of half the walk of all words that are read as r says
abbrev pub HalfOutcomeOf : Result code.Ticket Refusal → HalfOutcome → Type 0
HalfOutcomeOf r x = (w : List ℕ) → IsReadAs w r → x ≡ words_half w

module _ (w : List ℕ) where
  pub refused_half : (k : ℕ) → k ≡ refusal_of w → (k ≡ 0 → ⊥) → half_refused k ≡ words_half w
  refused_half zero e h = absurd (h refl)
  refused_half (suc j) e h = sym (demands.refused_half w j (sym e))

  pub accepted_half : {t : code.Ticket} (x : HalfOutcome) → Accepted w t → x ≡ half_of (ticket_with t.surd t.budget.steps) → x ≡ words_half w
  accepted_half x a e = e ∙ ap half_of (sym a.ticket_is) ∙ sym (past_half w a.passes)

  pub half_outcome_said : (x : HalfOutcome) → x ≡ words_half w → half_said x ≡ half_answer w
  unfolding half_answer
  half_outcome_said x e = ap half_said e

  -- what is said fixes the outcome, and T3 holds of it
  pub least_half : (x : HalfOutcome) → half_said x ≡ half_answer w → LeastHalf w x
  unfolding half_answer
  least_half x e = subst (LeastHalf w) (sym (half_said_injective x (words_half w) e)) (t3_half w)
