-- The proofs of specs/Regulators.
use Rattle.std.specs.Prelude.{ℕ, zero, suc, ◌≤◌, ◌<◌, ◌≡◌, refl, ◌↔◌, ◌≢◌, ◌⊎◌, Bool, true, false, List, [], ◌∷◌, map, length, get_or}
use Rattle.std.proofs.Common.{eq-zero-or-pos, arith, sym, ap, ◌∙◌, subst, inl, inr, ⊎_elim, ext_get_or}
use Rattle.std.proofs.Math.Logic.Iff
use Rattle.std.proofs.lemmas.Bool.{false≢true}
use Rattle.std.proofs.lemmas.List.{length-map}
use Rattle.std.proofs.Math.ListN.{get_or-map, get_or-eq_default}
use Rattle.math_ring.specs.Order.{le_or_lt}
use Rattle.spec_arithmetic.specs.Field.{prime}
use Rattle.spec_arithmetic.specs.Primes.{odd_prime}
use Rattle.spec_definitions.specs.Ticket.{ticket_of, wrong_degree, refusal_of}
use Rattle.spec_definitions.specs.Answers.{Outcome, refused, said, said_injective, words_outcome, regulator_of}
use Rattle.spec_lists.specs.Words.{value_less}
use Rattle.spec_bridge.specs.Prime.{odd_prime_true, prime_odd_prime}
use Rattle.spec_laws.specs.Cases.{refused_number}
use Rattle.spec_laws.specs.FirstTest.{first_applies, first_passes, first_nil}
use Rattle.spec_sentences.specs.Sentences.{value_at, coefficient, D, AllowedPrime, SquareDivides, DegreeNotAllowed, Applies}
use Rattle.spec_sentences.specs.Tests.{Tests, NoneBelow}
use Rattle.spec_sentences.proofs.Tests.{tests_eq, tests_none, tests_stable, none_more}
use Rattle.spec_sentences.proofs.Readings.{prime_allowed, tests_degree_of}
use Rattle.spec_demands.specs.Continued.{Walks}
use Rattle.spec_demands.proofs.Continued.{t2}
use Rattle.spec_demands.specs.LeastDegree.{Least}
use Rattle.spec_demands.proofs.LeastDegree.{t3}
use Rattle.spec_demands.specs.Numbered.{Numbered}
use Rattle.spec_demands.proofs.Numbered.{numbered, t1_numbers}
use Rattle.spec_answers.specs.Refusals.{First}
use Rattle.spec_answers.proofs.Refusals.{t1_answers}
use Rattle.spec_answers.proofs.Outcomes.{t2_regulator, t2_outcome_unique}
use Rattle.spec_several.specs.Several.{degree_of, prime_count, wrong_shape, several_refusal, job_words, several_of, sixteen_places, several_answer}
use Rattle.spec_several.specs.Shape.{RightShape}
use Rattle.spec_several.proofs.Shape.{shape, right_shape, count_primes, shape_passes}
use Rattle.spec_several.specs.Single.{SingleJob}
use Rattle.spec_several.proofs.Single.{single_job, one_single, no_head, no_layout, no_coefficient}
use Rattle.spec_several.proofs.Laws.{several_refused, length_sixteen, at_sixteen, count_outcomes, several_outcome}
use Rattle.spec_several.specs.Regulators.{Admits, prime_at, outcome_in, AtEach, JobExists, PrimeRefused, Fourteen, Three, SeveralRefused, T1Several, Ends, T2Several, T3Several, SeveralNumbered, SeveralOnly, Places}

-- ---- the proof
-- ---- the refusals of a single job
tests_allowed : (q : ℕ) → Tests (odd_prime q) (AllowedPrime q)
tests_allowed q = Iff.trans (odd_prime_true q, prime_odd_prime q) (prime_allowed q)

-- the same of equal numbers
along : (P : ℕ → Type 0) {x y : ℕ} → x ≡ y → P x ↔ P y
along P e = (subst P e, subst P (sym e))

positive : (q : ℕ) → AllowedPrime q → 0 < q
positive q a = let l = a.more in omega arith

-- of a job whose n is allowed
module _ (w : List ℕ) (degree : ¬ DegreeNotAllowed (value_at w 0)) (q : ℕ) (v : List ℕ) (s : SingleJob w q v) where
  abbrev P : ℕ → Type 0
  P j = Applies j v

  refused_first : (j : ℕ) → (words_outcome v ≡ refused j) ↔ First j v
  unfolding regulator_of
  refused_first j = let r = t1_answers.regulator v j in (λ e. r.0 (ap said e), λ f. said_injective _ _ (r.1 f))

  low_degree : 2 ≤ value_at w 0
  low_degree = ⊎_elim (λ l. l) (λ l. absurd (degree (inr (inl l)))) (le_or_lt 2 (value_at w 0))

  -- ---- the sentences 1 to 7, of the job's words
  head : ¬ P 1
  unfolding Applies
  head = no_head w q v s low_degree

  prime_number : P 2 ↔ (¬ AllowedPrime q)
  unfolding Applies
  prime_number = along (λ x. ¬ AllowedPrime x) s.prime_word.1

  no_degree : ¬ P 3
  unfolding Applies
  no_degree h = degree (subst DegreeNotAllowed s.degree_word.1 h)

  laid_out : ¬ P 4
  unfolding Applies
  laid_out = no_layout w q v s

  no_large : AllowedPrime q → ¬ P 5
  unfolding Applies
  no_large a = no_coefficient w q v s (positive q a)

  lead : P 6 ↔ (coefficient v (value_at w 0) ≢ 1)
  unfolding Applies
  lead = along (λ m. coefficient v m ≢ 1) s.degree_word.1

  square : P 7 ↔ SquareDivides (prime q) (D v)
  unfolding Applies
  square = along (λ x. SquareDivides (prime x) (D v)) s.prime_word.1

  -- ---- what is before a sentence
  before_2 : NoneBelow P 2
  before_2 = none_more P (λ j low high. absurd (omega arith)) head

  before_6 : AllowedPrime q → NoneBelow P 6
  before_6 a =
      let b = none_more P before_2 (λ h. prime_number.0 h a) in
      none_more P (none_more P (none_more P b no_degree) laid_out) (no_large a)

  allowed : {j : ℕ} → 2 < j → NoneBelow P j → AllowedPrime q
  allowed l none = tests_stable (tests_allowed q) (λ h. none 2 (omega arith) l (prime_number.1 h))

  lead_one : NoneBelow P 7 → coefficient v (value_at w 0) ≡ 1
  lead_one none = tests_stable (tests_eq _ 1) (λ h. none 6 (omega arith) (omega arith) (lead.1 h))

  number : (j : ℕ) → First j v → (j ≡ 2) ⊎ (j ≡ 6) ⊎ (j ≡ 7)
  number zero f = absurd (omega (arith, f.0))
  number (suc zero) f = absurd (head f.2)
  number (suc (suc zero)) f = inl refl
  number (suc (suc (suc zero))) f = absurd (no_degree f.2)
  number (suc (suc (suc (suc zero)))) f = absurd (laid_out f.2)
  number (suc (suc (suc (suc (suc zero))))) f = absurd (no_large (allowed (omega arith) f.3) f.2)
  number (suc (suc (suc (suc (suc (suc zero)))))) f = inr (inl refl)
  number (suc (suc (suc (suc (suc (suc (suc zero))))))) f = inr (inr refl)
  number (suc (suc (suc (suc (suc (suc (suc (suc j)))))))) f = absurd (omega (arith, f.1))

  prime_refused : PrimeRefused q v (value_at w 0) (words_outcome v)
  prime_refused = record {
    two = Iff.trans (refused_first 2) (
      λ f. prime_number.0 f.2,
      λ h. (omega arith, omega arith, prime_number.1 h, before_2),
    );
    six = Iff.trans (refused_first 6) (
      λ f. (allowed (omega arith) f.3, lead.0 f.2),
      λ h. (omega arith, omega arith, lead.1 h.1, before_6 h.0),
    );
    seven = Iff.trans (refused_first 7) (
      λ f. (allowed (omega arith) f.3, lead_one f.3, square.0 f.2),
      λ h. (omega arith, omega arith, square.1 h.2, none_more P (before_6 h.0) (λ l. lead.0 l h.1)),
    );
    no_other = λ j e. number j ((refused_first j).0 e);
  }

refused_outcome : (v : List ℕ) (j : ℕ) → refusal_of v ≡ suc j → words_outcome v ≡ refused (suc j)
unfolding words_outcome
refused_outcome v j e = rw (words_outcome, e)

-- ---- a ticket is refused by 14, or by 3, or has its primes
module _ (w : List ℕ) where
  outcomes_14 : ((k : ℕ) → ¬ RightShape w k) → several_of w ≡ refused 14 ∷ []
  unfolding several_refusal
  outcomes_14 h = several_refused w 13 (first_applies 14 _ ((shape w).1 h))

  outcomes_3 : {k : ℕ} → RightShape w k → DegreeNotAllowed (value_at w 0) → several_of w ≡ refused 3 ∷ []
  unfolding several_refusal degree_of
  outcomes_3 r d =
      let e = (tests_degree_of (value_at w 0)).1 d in
      several_refused w 2 (first_passes 14 _ (shape_passes w r) ∙ first_applies 3 _ e)

  no_refusal : {k : ℕ} → Admits w k → several_refusal w ≡ 0
  unfolding several_refusal degree_of
  no_refusal a =
      let e = tests_none (tests_degree_of (value_at w 0)) a.degree in
      first_passes 14 _ (shape_passes w a.shape) ∙ first_passes 3 _ e ∙ first_nil

  -- which of the three
  abbrev Which : Type 0
  Which =
      ((k : ℕ) → ¬ RightShape w k)
      ⊎ (RightShape w (prime_count w) × DegreeNotAllowed (value_at w 0))
      ⊎ Admits w (prime_count w)

  which : Which
  which = go (wrong_shape w) refl (wrong_degree (value_at w 0)) refl
    where
      tests : Tests (wrong_degree (value_at w 0)) (DegreeNotAllowed (value_at w 0))
      tests = tests_degree_of (value_at w 0)

      go : (b : Bool) → wrong_shape w ≡ b → (c : Bool) → wrong_degree (value_at w 0) ≡ c → Which
      go true e c f = inl ((shape w).0 e)
      go false e true f = inr (inl (right_shape w e, tests.0 f))
      go false e false f =
          inr (inr (record { shape = right_shape w e; degree = λ h. false≢true (sym f ∙ tests.1 h) }))

-- ---- the outcome at a prime
module _ (w : List ℕ) {k : ℕ} (a : Admits w k) where
  none : several_refusal w ≡ 0
  none = no_refusal w a

  count : prime_count w ≡ k
  count = count_primes w a.shape

  many : length (several_of w) ≡ k
  many = count_outcomes w none ∙ count

  module _ (i : ℕ) (h : i < k) where
    abbrev q : ℕ
    q = prime_at w i

    job : SingleJob w q (job_words w q)
    job = single_job w a.shape q (value_less _)

    outcome_of_job : outcome_in (several_of w) i ≡ words_outcome (job_words w q)
    unfolding degree_of
    outcome_of_job = several_outcome w none i (omega (arith, count)) (refused 0)

    -- it is that of every single job: there is one, or q is 0 and all are refused by 2
    outcome_of_single : (v : List ℕ) → SingleJob w q v → outcome_in (several_of w) i ≡ words_outcome v
    outcome_of_single v s = outcome_of_job ∙ ⊎_elim
        (λ z. refused_2 (job_words w q) job z ∙ sym (refused_2 v s z))
        (λ p. ap words_outcome (one_single w q p (job_words w q) v job s))
        (eq-zero-or-pos q)
      where
        refused_2 : (u : List ℕ) → SingleJob w q u → q ≡ 0 → words_outcome u ≡ refused 2
        refused_2 u t z = (prime_refused w a.degree q u t).two.1 (λ p. let l = positive q p in omega arith)

pub job_exists : JobExists
job_exists w k a i h = (job_words w (prime_at w i), job w a i h)

-- ---- T1
not_both : (j k : ℕ) → j ≢ k → (l : List Outcome) → l ≡ refused j ∷ [] → l ≢ refused k ∷ []
not_both j k h l e f = h (refused_number (ap (λ (l : List Outcome). outcome_in l 0) (sym e ∙ f)))

module _ (w : List ℕ) where
  -- the only outcome is a refusal of the ticket
  only_refused :
      {j : ℕ} → several_of w ≡ refused j ∷ [] → ((k : ℕ) → ¬ Admits w k) →
      Fourteen w (several_of w) → Three w (several_of w) → SeveralRefused w (several_of w)
  only_refused e never f t = record {
    fourteen = f;
    three = t;
    some = omega (arith, one);
    most = omega (arith, one);
    count = λ k a. absurd (never k a);
    each = λ k a. absurd (never k a);
  }
    where
      one : length (several_of w) ≡ 1
      one = ap length e

  refused_14 : ((k : ℕ) → ¬ RightShape w k) → SeveralRefused w (several_of w)
  refused_14 h = only_refused
      e
      (λ k a. h k a.shape)
      (λ _. h, λ _. e)
      (λ f. absurd (not_both 14 3 (λ z. omega arith) _ e f), λ r. absurd (h r.0 r.1))
    where
      e : several_of w ≡ refused 14 ∷ []
      e = outcomes_14 w h

  refused_3 : RightShape w (prime_count w) → DegreeNotAllowed (value_at w 0) → SeveralRefused w (several_of w)
  refused_3 r d = only_refused
      e
      (λ k a. a.degree d)
      (λ f. absurd (not_both 3 14 (λ z. omega arith) _ e f), λ h. absurd (h _ r))
      (λ _. (_, r, d), λ _. e)
    where
      e : several_of w ≡ refused 3 ∷ []
      e = outcomes_3 w r d

  each_refused : AtEach w (several_of w) (λ q v. PrimeRefused q v (value_at w 0))
  each_refused k a i h v s =
      let e = outcome_of_single w a i h v s in
      subst (PrimeRefused (prime_at w i) v (value_at w 0)) (sym e) (prime_refused w a.degree (prime_at w i) v s)

  module _ {k : ℕ} (a : Admits w k) where
    -- the only outcome of a prime is no refusal of the ticket
    never_only : (j : ℕ) → j ≢ 2 → j ≢ 6 → j ≢ 7 → several_of w ≢ refused j ∷ []
    never_only j x y z e =
        let r = each_refused k a 0 a.shape.some (job_words w (prime_at w 0)) (job w a 0 a.shape.some) in
        ⊎_elim x (⊎_elim y z) (r.no_other j (ap (λ (l : List Outcome). outcome_in l 0) e))

    each_its_own : SeveralRefused w (several_of w)
    each_its_own = record {
      fourteen = (
        λ e. absurd (never_only 14 (λ z. omega arith) (λ z. omega arith) (λ z. omega arith) e),
        λ h. absurd (h k a.shape),
      );
      three = (
        λ e. absurd (never_only 3 (λ z. omega arith) (λ z. omega arith) (λ z. omega arith) e),
        λ h. absurd (a.degree h.2),
      );
      some = omega (arith, many w a, a.shape.some);
      most = omega (arith, many w a, a.shape.most);
      count = λ k a. many w a;
      each = each_refused;
    }

pub t1_several : T1Several
t1_several w = ⊎_elim (refused_14 w) (⊎_elim (λ h. refused_3 w h.0 h.1) (λ a. each_its_own w a)) (which w)

-- ---- T2 and T3
pub t2_several : T2Several
unfolding regulator_of
t2_several w k a i h v s = record {
  single = e;
  walks = λ z. subst (Walks (ticket_of v)) (sym e) (t2 v z);
  ends = subst (Ends v) (sym e) (t2_regulator v);
}
  where
    e : outcome_in (several_of w) i ≡ words_outcome v
    e = outcome_of_single w a i h v s

pub t3_several : T3Several
t3_several w k a i h v s = subst (Least v) (sym (outcome_of_single w a i h v s)) (t3 v)

-- ---- nothing else
-- an outcome that is refused as that of the job is, and ends as it does, is the same
same_outcome :
    (q n : ℕ) (v : List ℕ) (x : Outcome) →
    PrimeRefused q v n (words_outcome v) → PrimeRefused q v n x → Ends v x → x ≡ words_outcome v
same_outcome q n v x r s ends = go (refusal_of v) refl
  where
    -- by the number of the refusal
    by_number : (j : ℕ) → words_outcome v ≡ refused j → x ≡ refused j
    by_number j e = ⊎_elim (at two) (⊎_elim (at six) (at seven)) (r.no_other j e)
      where
        at : {i : ℕ} → (words_outcome v ≡ refused i → x ≡ refused i) → j ≡ i → x ≡ refused j
        at f z = f (e ∙ ap refused z) ∙ ap refused (sym z)

        two : words_outcome v ≡ refused 2 → x ≡ refused 2
        two e = s.two.1 (r.two.0 e)

        six : words_outcome v ≡ refused 6 → x ≡ refused 6
        six e = s.six.1 (r.six.0 e)

        seven : words_outcome v ≡ refused 7 → x ≡ refused 7
        seven e = s.seven.1 (r.seven.0 e)

    go : (j : ℕ) → refusal_of v ≡ j → x ≡ words_outcome v
    go zero z = let (m, h, f) = ends z in t2_outcome_unique v z m h x f
    go (suc j) z = let e = refused_outcome v j z in by_number (suc j) e ∙ sym e

pub several_only : SeveralOnly
several_only w l r ends = ⊎_elim wrong (⊎_elim degree primes) (which w)
  where
    wrong : ((k : ℕ) → ¬ RightShape w k) → l ≡ several_of w
    wrong h = r.fourteen.1 h ∙ sym (outcomes_14 w h)

    degree : RightShape w (prime_count w) × DegreeNotAllowed (value_at w 0) → l ≡ several_of w
    degree (s, d) = r.three.1 (prime_count w, s, d) ∙ sym (outcomes_3 w s d)

    primes : Admits w (prime_count w) → l ≡ several_of w
    primes a = ext_get_or (refused 0) l (several_of w) (long ∙ sym (many w a)) (λ i h. place i (omega (arith, long)))
      where
        long : length l ≡ prime_count w
        long = r.count _ a

        place : (i : ℕ) → i < prime_count w → outcome_in l i ≡ outcome_in (several_of w) i
        place i h =
            same_outcome q _ v (outcome_in l i) (prime_refused w a.degree q v s) (r.each _ a i h v s) (ends _ a i h v s)
            ∙ sym (outcome_of_job w a i h)
          where
            q : ℕ
            q = prime_at w i

            v : List ℕ
            v = job_words w q

            s : SingleJob w q v
            s = job w a i h

-- ---- the numbers of found and spent
pub several_numbered : SeveralNumbered
unfolding regulator_of
several_numbered w i h = ⊎_elim
    (λ n. only 14 (outcomes_14 w n) (numbered 14 (λ z. omega arith) (λ z. omega arith)))
    (⊎_elim
    (λ r. only 3 (outcomes_3 w r.0 r.1) (numbered 3 (λ z. omega arith) (λ z. omega arith)))
    at_prime)
    (which w)
  where
    only : (j : ℕ) → several_of w ≡ refused j ∷ [] → Numbered (refused j) → Numbered (outcome_in (several_of w) i)
    only j e =
        let first : i ≡ 0 = omega (arith, ap length e) in
        subst Numbered (sym (ap (outcome_in (several_of w)) first ∙ ap (λ (l : List Outcome). outcome_in l 0) e))

    at_prime : Admits w (prime_count w) → Numbered (outcome_in (several_of w) i)
    at_prime a =
        let e = outcome_of_job w a i (omega (arith, many w a)) in
        subst Numbered (sym e) (t1_numbers.0 (job_words w (prime_at w i)) _ refl)

-- ---- the sixteen places
pub places : Places
unfolding several_answer
places w = record {
  words = refl;
  count = refl;
  sixteen = length-map (sixteen_places l) said ∙ length_sixteen l (t1_several w).most;
  first = λ i h. at i;
  past = λ i h. at i ∙ ap said (get_or-eq_default l (refused 0) h);
}
  where
    l : List Outcome
    l = several_of w

    at : (i : ℕ) → get_or (map said (sixteen_places l)) i (said (refused 0)) ≡ said (outcome_in l i)
    at i = get_or-map said (sixteen_places l) i (refused 0) ∙ ap said (at_sixteen l i)
