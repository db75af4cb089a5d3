-- The proofs of specs/Regulators.
use Rattle.std.specs.Prelude.{ℕ, zero, suc, ◌≡◌, refl, List, [], ◌∷◌, map, get_or}
use Rattle.std.proofs.Common.{sym, ap, ◌∙◌, subst}
use Rattle.spec_definitions.specs.Answers.{Outcome, refused, words_outcome}
use Rattle.spec_demands.specs.LeastDegree.{Least}
use Rattle.spec_demands.proofs.LeastDegree.{t3}
use Rattle.spec_several.specs.Several.{primes_of, several_refusal, job_words, several_of}
use Rattle.spec_several.proofs.Laws.{several_refused, several_primes, at_sixteen}
use Rattle.call_regulators.specs.declared.SeveralAnswer.{SeveralAnswer}
use Rattle.call_regulators.specs.Regulators.{outcomes, Answers, LeastEach}

-- ---- the proof of T3
-- a relation between each q and its outcome, place by place
at_each : (P : ℕ → Outcome → Type 0) (f : ℕ → Outcome) → ((q : ℕ) → P q (f q)) → P 0 (refused 0) →
    (l : List ℕ) (i : ℕ) → P (get_or l i 0) (get_or (map f l) i (refused 0))
at_each P f h z [] i = z
at_each P f h z (q ∷ l) zero = h q
at_each P f h z (q ∷ l) (suc i) = at_each P f h z l i

module _ (w : List ℕ) where
  least_primes : several_refusal w ≡ 0 → LeastEach w (several_of w)
  least_primes e i =
      subst (λ (l : List Outcome). Least (job_words w (get_or (primes_of w) i 0)) (get_or l i (refused 0)))
      (sym (several_primes w e))
      (at_each (λ q x. Least (job_words w q) x) (λ q. words_outcome (job_words w q)) (λ q. t3 (job_words w q)) tt (primes_of w) i)

  least_refused : (j : ℕ) → several_refusal w ≡ suc j → LeastEach w (several_of w)
  least_refused j e i =
      subst (λ (l : List Outcome). Least (job_words w (get_or (primes_of w) i 0)) (get_or l i (refused 0)))
      (sym (several_refused w j e))
      (go i)
    where
      go : (i : ℕ) → Least (job_words w (get_or (primes_of w) i 0)) (get_or (refused (suc j) ∷ []) i (refused 0))
      go zero = tt
      go (suc i) = tt

  pub least_each : (a : SeveralAnswer) → Answers w a → LeastEach w (outcomes a)
  least_each a h i =
      subst (λ (x : Outcome). Least (job_words w (get_or (primes_of w) i 0)) x)
      (sym (ap (λ (l : List Outcome). get_or l i (refused 0)) h.places ∙ at_sixteen (several_of w) i))
      (go (several_refusal w) refl)
    where
      go : (k : ℕ) → several_refusal w ≡ k →
          Least (job_words w (get_or (primes_of w) i 0)) (get_or (several_of w) i (refused 0))
      go zero e = least_primes e i
      go (suc j) e = least_refused j e i
