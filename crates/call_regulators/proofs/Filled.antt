-- The proofs of specs/Filled.
use Rattle.std.specs.Prelude.{ℕ, zero, suc, ◌+◌, ◌-◌, ◌≤◌, ◌<◌, ◌≡◌, refl, List, [], ◌∷◌, ◌++◌, length, get_or, set, drop, replicate}
use Rattle.std.proofs.Common.{arith, sym, ◌∙◌, subst, length-append, take_all, take-suc, length-take-le, length-drop, get_or-take, get_or-drop}
use Rattle.std.proofs.Math.Numerals.{add-one}
use Rattle.std.proofs.Math.Path.{ap}
use Rattle.std.proofs.Math.ListN.{take}
use Rattle.std.proofs.Math.Seq.{append_snoc, set-append_seam}
use Rattle.spec_arithmetic.specs.Words.{value}
use Rattle.spec_definitions.specs.Answers.{Outcome, refused, words_outcome}
use Rattle.spec_several.specs.Several.{most_primes, degree_of, several_refusal, job_words, several_of, sixteen_places}
use Rattle.spec_several.proofs.Laws.{several_refused, primes_most, length_words, count_outcomes, several_outcome}
use Rattle.walk_outcome.specs.Outcome.{meaning}
use Rattle.walk_outcome.specs.declared.Outcome as code
use Rattle.call_regulators.specs.Regulators.{meanings}
use Rattle.call_regulators.specs.Filled.{FilledPlaces}

meanings_set : (l : List code.Outcome) (i : ℕ) (x : code.Outcome) →
    meanings (set l i x) ≡ set (meanings l) i (meaning x)
meanings_set [] i x = refl
meanings_set (p ∷ l) zero x = refl
meanings_set (p ∷ l) (suc i) x = ap (λ (m : List Outcome). meaning p ∷ m) (meanings_set l i x)

-- an outcome in the first place that holds the refusal 0
sixteen_more : (l : List Outcome) (x : Outcome) → length l < most_primes →
    set (sixteen_places l) (length l) x ≡ sixteen_places (l ++ (x ∷ []))
unfolding sixteen_places
sixteen_more l x h =
    let s : most_primes - length l ≡ suc (most_primes - length (l ++ (x ∷ []))) = omega (arith, length-append l (x ∷ [])) in
    ap (λ (k : ℕ). set (l ++ replicate k (refused 0)) (length l) x) s
    ∙ set-append_seam l (refused 0) _ x
    ∙ sym (append_snoc l x _)

-- the same of what the places mean
more_places : (places : List code.Outcome) (x : code.Outcome) (l : List Outcome) → length l < most_primes →
    meanings places ≡ sixteen_places l →
    meanings (set places (length l) x) ≡ sixteen_places (l ++ (meaning x ∷ []))
more_places places x l h e =
    meanings_set places (length l) x
    ∙ ap (λ (m : List Outcome). set m (length l) (meaning x)) e
    ∙ sixteen_more l (meaning x) h

pub filled_all : (w : List ℕ) (places : List code.Outcome) (i : ℕ) → i ≡ length (several_of w) →
    FilledPlaces w i places → meanings places ≡ sixteen_places (several_of w)
filled_all w places i e f = f ∙ ap sixteen_places (take_all i (several_of w) (omega arith))

-- a refusal of the ticket is its only outcome
pub refused_only : (w : List ℕ) (k : ℕ) → k ≡ several_refusal w → (k ≡ 0 → ⊥) → several_of w ≡ refused k ∷ []
refused_only w zero e h = absurd (h refl)
refused_only w (suc j) e h = several_refused w j (sym e)

module _ (w : List ℕ) (none : several_refusal w ≡ 0) where
  pub count_most : length (several_of w) ≤ most_primes
  count_most = omega (arith, count_outcomes w none, primes_most w none)

  pub words_are : length w ≡ value (get_or w 0 0) + 4 + length (several_of w)
  unfolding degree_of
  words_are = omega (arith, count_outcomes w none, length_words w none)

  -- the words of the primes are as many as the outcomes, and the one in place i is word i after the budget
  pub count_primes : (first : ℕ) → first ≡ value (get_or w 0 0) + 3 → length (take (length w - 1 - first) (drop first w)) ≡ length (several_of w)
  count_primes first e =
      let d = length-drop first w in
      let h = words_are in
      let l : length (take (length w - 1 - first) (drop first w)) ≡ length w - 1 - first = length-take-le (length w - 1 - first) (drop first w) (omega arith) in
      omega arith

  pub prime_at : (first i : ℕ) → first ≡ value (get_or w 0 0) + 3 → i < length (several_of w) → get_or (take (length w - 1 - first) (drop first w)) i 0 ≡ get_or w (first + i) 0
  prime_at first i e h = get_or-take (length w - 1 - first) (drop first w) i 0 (let k = words_are in omega arith) ∙ get_or-drop first w i 0

  -- the outcome at q, and at the prime in word i after the budget
  abbrev outcome_at : ℕ → Outcome
  outcome_at q = words_outcome (job_words w q)

  abbrev outcome_after : ℕ → Outcome
  outcome_after i = outcome_at (value (get_or w (value (get_or w 0 0) + 3 + i) 0))

  next_outcome : (i : ℕ) → i < length (several_of w) →
      take (i + 1) (several_of w) ≡ take i (several_of w) ++ (outcome_after i ∷ [])
  unfolding degree_of
  next_outcome i h =
      rw add-one
      (take-suc (several_of w) i (refused 0) h
      ∙ ap (λ (x : Outcome). take i (several_of w) ++ (x ∷ [])) (several_outcome w none i (omega (arith, count_outcomes w none)) (refused 0)))

  -- place i gets the outcome at the prime q in word i after the budget
  pub filled_more : (places : List code.Outcome) (x : code.Outcome) {n q : ℕ} (i : ℕ) → i < length (several_of w) →
      n ≡ value (get_or w 0 0) → q ≡ value (get_or w (n + 3 + i) 0) → meaning x ≡ words_outcome (job_words w q) →
      FilledPlaces w i places → FilledPlaces w (i + 1) (set places i x)
  filled_more places x i h n_is q_is x_is f =
      let e : meaning x ≡ outcome_after i = x_is ∙ ap outcome_at (q_is ∙ ap (λ (n : ℕ). value (get_or w (n + 3 + i) 0)) n_is) in
      let k : length (take i (several_of w)) ≡ i = length-take-le i (several_of w) (omega arith) in
      subst (λ (k : ℕ). meanings (set places k x) ≡ sixteen_places (take (i + 1) (several_of w))) k
      (more_places places x (take i (several_of w)) (omega (arith, count_most)) f
      ∙ ap sixteen_places (ap (λ (y : Outcome). take i (several_of w) ++ (y ∷ [])) e ∙ sym (next_outcome i h)))
