-- The outcome of words that are read as a ticket or refused; what T3 says of an outcome that is said as the
-- definitions say it.
use Prim.Native.Nat.{ℕ, zero, suc}
use Rattle.std.proofs.Common.{arith, sym, ◌∙◌, subst}
use Rattle.std.proofs.Math.Path.{◌≡◌, refl, ap}
use Rattle.std.specs.Prelude.{List, Result, IfOk}
use Rattle.spec_definitions.specs.Ticket.{ticket_of, refusal_of}
use Rattle.spec_definitions.specs.Answers.{Outcome, refused, said, said_injective, outcome_of, words_outcome, regulator_of}
use Rattle.spec_demands.specs.LeastDegree.{Least}
use Rattle.spec_demands.proofs.LeastDegree.{t3}
use Rattle.base_refusals.specs.declared.Refusal.{Refusal}
use Rattle.base_refusals.specs.Number.{refused_by}
use Rattle.base_surd.specs.Surd.{ticket_with}
use Rattle.ticket_read.specs.declared.Ticket as code
use Rattle.ticket_read.specs.Accepted.{Accepted}

-- the words w are read as r says
pub record IsReadAs (w : List ℕ) (r : Result code.Ticket Refusal) : Type 0 where
  pub refused : refused_by r ≡ refusal_of w
  pub read : IfOk r (λ t. ticket_of w ≡ ticket_with t.surd t.budget.steps)

-- x is the outcome of all words that are read as r says
abbrev pub OutcomeOf : Result code.Ticket Refusal → Outcome → Type 0
OutcomeOf r x = (w : List ℕ) → IsReadAs w r → x ≡ words_outcome w

module _ (w : List ℕ) where
  pub refused_outcome : (k : ℕ) → k ≡ refusal_of w → (k ≡ 0 → ⊥) → refused k ≡ words_outcome w
  unfolding words_outcome
  refused_outcome k e h = go (refusal_of w) e
    where
      go : (r : ℕ) → k ≡ r → refused k ≡ (elim r [ zero ↦ outcome_of (ticket_of w) | suc j ↦ refused (suc j) ])
      go zero z = absurd (h z)
      go (suc j) z = ap refused z

  pub accepted_outcome : {t : code.Ticket} (x : Outcome) → Accepted w t → x ≡ outcome_of (ticket_with t.surd t.budget.steps) → x ≡ words_outcome w
  unfolding words_outcome
  accepted_outcome x a e = e ∙ ap outcome_of (sym a.ticket_is) ∙ go (refusal_of w) a.passes
    where
      go : (r : ℕ) → r ≡ 0 → outcome_of (ticket_of w) ≡ (elim r [ zero ↦ outcome_of (ticket_of w) | suc j ↦ refused (suc j) ])
      go zero z = refl
      go (suc j) z = absurd (let k : ◌≡◌ {A = ℕ} (suc j) 0 = z in omega arith)

  pub outcome_said : (x : Outcome) → x ≡ words_outcome w → said x ≡ regulator_of w
  unfolding regulator_of
  outcome_said x e = ap said e

  -- what is said fixes the outcome
  pub said_outcome : (x : Outcome) → said x ≡ regulator_of w → x ≡ words_outcome w
  unfolding regulator_of
  said_outcome x e = said_injective x (words_outcome w) e

  pub least : (x : Outcome) → said x ≡ regulator_of w → Least w x
  least x e = subst (Least w) (sym (said_outcome x e)) (t3 w)
