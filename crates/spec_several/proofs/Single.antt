-- The proofs of specs/Single.
use Rattle.std.specs.Prelude.{ℕ, zero, suc, ◌+◌, ◌-◌, ◌≤◌, ◌<◌, ◌≡◌, true, false, List, [], ◌∷◌, get_or}
use Rattle.std.proofs.Common.{eq-or-lt_of_le, arith, sym, ◌∙◌, ⊎_elim, ext_get_or}
use Rattle.std.proofs.Math.Path.{ap, subst}
use Rattle.std.proofs.Math.ListN.{length}
use Rattle.math_ring.specs.Order.{le_or_lt}
use Rattle.spec_arithmetic.specs.Words.{values, kind, value, word}
use Rattle.spec_lists.specs.Words.{kind_word, value_word, word_unique, value_less}
use Rattle.spec_definitions.specs.Ticket.{ticket_of, wrong_head, wrong_prime, wrong_degree, first_of, tests_of, refusal_of}
use Rattle.spec_laws.specs.FirstTest.{radicand_tests, first_applies, first_passes}
use Rattle.spec_laws.specs.Admitted.{allowed_degree}
use Rattle.spec_sentences.specs.Sentences.{kind_at, value_at, coefficient, D, WrongHead, WrongKind, WrongLayout, WrongCoefficient}
use Rattle.spec_sentences.proofs.Tests.{tests_none}
use Rattle.spec_sentences.proofs.Readings.{tests_head, tests_layout, coefficient_at, length_D}
use Rattle.spec_several.specs.Several.{degree_of, budget_of, job_at, job_words}
use Rattle.spec_several.specs.Residues.{IsResidue}
use Rattle.spec_several.proofs.Residues.{residues, one_residue}
use Rattle.spec_several.specs.Shape.{RightShape}
use Rattle.spec_several.proofs.Jobs.{length_ticket, word_prime, word_degree, word_coefficient, word_budget, word_end, job_length, job_coefficient, job_fits}
use Rattle.spec_several.specs.Single.{SingleJob}

-- ---- the proof
-- what a word of kind k and value x says
said_word : (a k x : ℕ) → a ≡ word k x → x < values → (kind a ≡ k) × (value a ≡ x)
said_word a k x e h = (ap kind e ∙ kind_word k x h, ap value e ∙ value_word k x h)

module _ (w : List ℕ) {k : ℕ} (shape : RightShape w k) (q : ℕ) (fits : q < values) where
  abbrev n : ℕ
  n = value_at w 0

  abbrev v : List ℕ
  v = job_words w q

  -- the end word counts the words, so that n + 4 fits into a word
  end_fits : n + 4 < values
  end_fits = omega (arith, shape.end_count, value_less (get_or w (n + 3 + k) 0), shape.some)

  coefficient_word : (j : ℕ) → j ≤ n → (kind_at v (j + 2) ≡ 3) × (coefficient v j ≡ get_or (job_at w q).D j 0)
  unfolding job_words job_at degree_of
  coefficient_word j h =
      let e = word_coefficient (job_at w q) (job_length w shape q) j h in
      said_word _ 3 _ e (job_fits w shape q fits j h)

  pub single_job : SingleJob w q v
  unfolding job_words job_at degree_of budget_of
  single_job = record {
    words = length_ticket (job_at w q) size;
    prime_word = said_word _ 1 q (word_prime (job_at w q) size) fits;
    degree_word = said_word _ 2 n (word_degree (job_at w q) size) (value_less _);
    coefficients = λ j h. (coefficient_word j h).0;
    reduced = λ p j h.
        let e = (coefficient_word j h).1 ∙ job_coefficient w shape q j h in
        subst (IsResidue q (value_at w (j + 1))) (sym e) (residues q (value_at w (j + 1)) p);
    budget_word = said_word _ 4 (value_at w (n + 2)) (word_budget (job_at w q) size) (value_less _);
    end_word = said_word _ 15 (n + 4) (word_end (job_at w q) size) end_fits;
  }
    where
      size : length (job_at w q).D ≡ n + 1
      size = job_length w shape q

  D_is : D v ≡ (job_at w q).D
  D_is = ext_get_or 0 (D v) (job_at w q).D (long ∙ sym (job_length w shape q)) (λ i h. place i (omega (arith, long)))
    where
      n_is : value_at v 1 ≡ n
      n_is = single_job.degree_word.1

      long : length (D v) ≡ n + 1
      long = length_D v (single_job.words ∙ ap (λ (m : ℕ). m + 5) (sym n_is)) ∙ ap (λ (m : ℕ). m + 1) n_is

      place : (i : ℕ) → i ≤ n → get_or (D v) i 0 ≡ get_or (job_at w q).D i 0
      place i h = coefficient_at v i (omega (arith, n_is)) ∙ (coefficient_word i h).1

  -- the words of the job say it
  pub job_said : ticket_of v ≡ job_at w q
  unfolding ticket_of job_at degree_of budget_of
  job_said = λ i. record {
    field = record { q = single_job.prime_word.1 i };
    n = single_job.degree_word.1 i;
    D = D_is i;
    b = budget_is i;
  }
    where
      budget_is : value_at v (value_at v 1 + 3) ≡ value_at w (n + 2)
      budget_is = ap (λ (m : ℕ). value_at v (m + 3)) single_job.degree_word.1 ∙ single_job.budget_word.1

-- ---- the tests of a single job
module _ (w : List ℕ) (q : ℕ) (v : List ℕ) (s : SingleJob w q v) where
  n_is : value_at v 1 ≡ value_at w 0
  n_is = s.degree_word.1

  pub no_head : 2 ≤ value_at w 0 → ¬ WrongHead v
  no_head low = ⊎_elim (λ h. omega (arith, s.words)) (⊎_elim (λ h. h s.prime_word.0) (λ h. h s.degree_word.0))

  no_kind : ¬ WrongKind v
  no_kind = ⊎_elim
      (λ (i, low, high, h).
      let e : i ≡ (i - 2) + 2 = omega arith in
      h (ap (kind_at v) e ∙ s.coefficients (i - 2) (omega (arith, n_is))))
      (⊎_elim
      (λ h. h (ap (λ (m : ℕ). kind_at v (m + 3)) n_is ∙ s.budget_word.0))
      (λ h. h (ap (λ (m : ℕ). kind_at v (m + 4)) n_is ∙ s.end_word.0)))

  pub no_layout : ¬ WrongLayout v
  no_layout = ⊎_elim
      (λ h. h (s.words ∙ ap (λ (m : ℕ). m + 5) (sym n_is)))
      (⊎_elim
      no_kind
      (λ h. h (ap (λ (m : ℕ). value_at v (m + 4)) n_is ∙ s.end_word.1 ∙ ap (λ (m : ℕ). m + 4) (sym n_is))))

  -- a residue is never q or more
  pub no_coefficient : 0 < q → ¬ WrongCoefficient v
  no_coefficient p (i, h, large) = omega (arith, (s.reduced p i (omega (arith, n_is))).below, s.prime_word.1)

  module _ (degree : wrong_degree (value_at w 0) ≡ false) where
    low_degree : 2 ≤ value_at w 0
    low_degree = let e = allowed_degree (value_at w 0) degree in omega (arith, e.0)

    head_passes : wrong_head (1 ∷ []) v ≡ false
    head_passes = tests_none (tests_head v) (no_head low_degree)

    pub single_refused_2 : wrong_prime q ≡ true → refusal_of v ≡ 2
    unfolding refusal_of tests_of ticket_of
    single_refused_2 e = first_passes 1 _ head_passes ∙ first_applies 2 _ (ap wrong_prime s.prime_word.1 ∙ e)

    pub single_refusal : wrong_prime q ≡ false → refusal_of v ≡ first_of (radicand_tests (ticket_of v).field (ticket_of v).n (ticket_of v).D)
    unfolding refusal_of tests_of ticket_of radicand_tests
    single_refusal e =
        first_passes 1 _ head_passes
        ∙ first_passes 2 _ (ap wrong_prime s.prime_word.1 ∙ e)
        ∙ first_passes 3 _ (ap wrong_degree n_is ∙ degree)
        ∙ first_passes 4 _ (tests_none (tests_layout v) no_layout)

-- ---- at a q other than 0 there is one single job
module _ (w : List ℕ) (q : ℕ) (p : 0 < q) (v u : List ℕ) (s : SingleJob w q v) (t : SingleJob w q u) where
  abbrev SameAt : ℕ → Type 0
  SameAt i = get_or v i 0 ≡ get_or u i 0

  same_at : (i k x : ℕ) → (kind_at v i ≡ k) × (value_at v i ≡ x) → (kind_at u i ≡ k) × (value_at u i ≡ x) → SameAt i
  same_at i k x a b = word_unique _ _ (a.0 ∙ sym b.0) (a.1 ∙ sym b.1)

  coefficient_same : (j : ℕ) → j ≤ value_at w 0 → SameAt (j + 2)
  coefficient_same j h =
      let e = one_residue q (value_at w (j + 1)) _ _ (s.reduced p j h) (t.reduced p j h) in
      word_unique _ _ (s.coefficients j h ∙ sym (t.coefficients j h)) e

  budget_or_end : (i : ℕ) → value_at w 0 + 3 ≤ i → i < value_at w 0 + 5 → SameAt i
  budget_or_end i low high = ⊎_elim
      (λ (e : value_at w 0 + 3 ≡ i). subst SameAt e (same_at _ _ _ s.budget_word t.budget_word))
      (λ (l : value_at w 0 + 3 < i). subst SameAt (omega arith) (same_at _ _ _ s.end_word t.end_word))
      (eq-or-lt_of_le low)

  place : (i : ℕ) → i < value_at w 0 + 5 → SameAt i
  place zero high = same_at 0 1 q s.prime_word t.prime_word
  place (suc zero) high = same_at 1 2 (value_at w 0) s.degree_word t.degree_word
  place (suc (suc j)) high = ⊎_elim
      (λ l. subst SameAt (let e : j + 2 ≡ suc (suc j) = omega arith in e) (coefficient_same j l))
      (λ l. budget_or_end (suc (suc j)) (omega arith) high)
      (le_or_lt j (value_at w 0))

  pub one_single : v ≡ u
  one_single = ext_get_or 0 v u (s.words ∙ sym t.words) (λ i h. place i (omega (arith, s.words)))
