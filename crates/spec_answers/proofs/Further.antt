-- The proofs of specs/Further.
use Rattle.std.specs.Prelude.{ℕ, zero, suc, ◌≡◌, refl, ◌↔◌, ◌≢◌, ◌⊎◌, Bool, true, false, List}
use Rattle.std.proofs.Common.{sym, ap, ◌∙◌, subst, inl, inr, ⊎_elim}
use Rattle.std.proofs.lemmas.Bool.{false≢true}
use Rattle.spec_definitions.specs.Ticket.{refusal_of}
use Rattle.spec_sentences.specs.Tests.{Tests}
use Rattle.spec_sentences.proofs.Tests.{tests_none}
use Rattle.spec_answers.specs.Refusals.{First, None}
use Rattle.spec_answers.proofs.Refusals.{passes, none_applies, first_number, number_first}
use Rattle.spec_answers.specs.Further as defs

module _ {A : Type 0} (refused : ℕ → A) (own : ℕ) (done : A) where
  abbrev tested : Bool → A
  tested = defs.tested refused own done

  abbrev answered : ℕ → Bool → A
  answered = defs.answered refused own done

  module _ (w : List ℕ) {b : Bool} {P : Type 0} (t : Tests b P) where
    abbrev answer : A
    answer = answered (refusal_of w) b

    pub words_refused : (k : ℕ) → refusal_of w ≡ suc k → answer ≡ refused (suc k)
    words_refused k e = ap (λ (n : ℕ). answered n b) e

    pub own_refused : refusal_of w ≡ 0 → P → answer ≡ refused own
    own_refused e p = ap (λ (n : ℕ). answered n b) e ∙ ap tested (t.1 p)

    pub is_done : refusal_of w ≡ 0 → ¬ P → answer ≡ done
    is_done e h = ap (λ (n : ℕ). answered n b) e ∙ ap tested (tests_none t h)

    -- ---- T1; 0 is no refusal: it says that the thing is done
    module _ (number : A → ℕ) (refused_number : (k : ℕ) → number (refused k) ≡ k) (done_number : number done ≡ 0) where
      number_of : {k : ℕ} → answer ≡ refused k → number answer ≡ k
      number_of {k} e = ap number e ∙ refused_number k

      pub further_number : (k : ℕ) → k ≢ 0 → (number answer ≡ k) ↔ (First k w ⊎ ((k ≡ own) × None w × P))
      further_number k some = (λ e. go (refusal_of w) refl b refl e, ⊎_elim (λ f. from_first k (first_number w f) some) (λ f. number_of (own_refused (passes w f.1) f.2) ∙ sym f.0))
        where
          from_first : (k : ℕ) → refusal_of w ≡ k → k ≢ 0 → number answer ≡ k
          from_first zero e not = absurd (not refl)
          from_first (suc k) e not = number_of (words_refused k e)

          go : (n : ℕ) → refusal_of w ≡ n → (c : Bool) → b ≡ c → number answer ≡ k → First k w ⊎ ((k ≡ own) × None w × P)
          go zero z true c e = let p = t.0 c in inr (sym e ∙ number_of (own_refused z p), none_applies w z, p)
          go zero z false c e = absurd (some (sym e ∙ ap number (is_done z (λ p. false≢true (sym c ∙ t.1 p))) ∙ done_number))
          go (suc n) z c _ e = inl (number_first w k some (z ∙ sym (number_of (words_refused n z)) ∙ e))

      -- what holds of every refusal holds where the answer is refused
      pub further_refused : (Z : A → Type 0) → ((k : ℕ) → Z (refused k)) → number answer ≢ 0 → Z answer
      further_refused Z z some = go (refusal_of w) refl b refl
        where
          go : (n : ℕ) → refusal_of w ≡ n → (c : Bool) → b ≡ c → Z answer
          go zero e true c = subst Z (sym (own_refused e (t.0 c))) (z own)
          go zero e false c = absurd (some (ap number (is_done e (λ p. false≢true (sym c ∙ t.1 p))) ∙ done_number))
          go (suc n) e c _ = subst Z (sym (words_refused n e)) (z (suc n))
