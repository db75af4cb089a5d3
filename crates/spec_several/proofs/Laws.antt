-- The outcomes of a ticket by its refusal, and in sixteen places; where it is not refused, how many words it
-- has, its primes, and the single job at each: its words say it, and of its tests those of 2 and of 5 to 7 are
-- left.
use Rattle.std.specs.Prelude.{ℕ, zero, suc, ◌+◌, ◌-◌, ◌≤◌, ◌<◌, ◌≡◌, refl, true, false, List, [], ◌∷◌, ◌++◌, map, length, get_or, take, drop, replicate}
use Rattle.std.proofs.Common.{arith, ◌∙◌, length-append, length-drop, get_or-take}
use Rattle.std.proofs.Math.Path.{ap}
use Rattle.std.proofs.lemmas.List.{length-replicate, length-map, get_or-map as get_or-map_within}
use Rattle.std.proofs.Math.ListN.{length-take, get_or-map}
use Rattle.std.proofs.Math.Seq.{get_or-drop}
use Rattle.spec_arithmetic.specs.Field.{prime}
use Rattle.spec_arithmetic.specs.Words.{values, value}
use Rattle.spec_definitions.specs.Ticket.{Ticket, ticket_of, wrong_prime, wrong_degree, first_of, refusal_of}
use Rattle.spec_definitions.specs.Answers.{Outcome, refused, words_outcome}
use Rattle.spec_laws.specs.FirstTest.{radicand_tests, first_none}
use Rattle.spec_laws.specs.Admitted.{allowed_degree}
use Rattle.spec_several.specs.Several.{most_primes, degree_of, prime_count, primes_of, wrong_shape, several_refusal, job_at, job_words, several_of, sixteen_places}
pub use Rattle.spec_several.proofs.KindWords.{kinds_length, kinds_first, kinds_coefficient, kinds_budget, kinds_prime, kinds_end}
use Rattle.spec_several.specs.Shape.{RightShape}
use Rattle.spec_several.proofs.Shape.{right_shape}
use Rattle.spec_several.proofs.Jobs.{job_length}
use Rattle.spec_several.specs.Single.{SingleJob}
use Rattle.spec_several.proofs.Single.{single_job, job_said, single_refused_2, single_refusal}

-- ---- the outcomes by the ticket's refusal
module _ (w : List ℕ) where
  pub several_refused : (j : ℕ) → several_refusal w ≡ suc j → several_of w ≡ refused (suc j) ∷ []
  unfolding several_of
  several_refused j e = rw (several_of, e)

  pub several_primes : several_refusal w ≡ 0 → several_of w ≡ map (λ q. words_outcome (job_words w q)) (primes_of w)
  unfolding several_of
  several_primes e = rw (several_of, e)

-- ---- the sixteen places
pub length_sixteen : (l : List Outcome) → length l ≤ most_primes → length (sixteen_places l) ≡ most_primes
unfolding sixteen_places
length_sixteen l h = omega (arith, length-append l (replicate (most_primes - length l) (refused 0)), length-replicate (most_primes - length l) (refused 0))

get_d_same : (n i : ℕ) (x : Outcome) → get_or (replicate n x) i x ≡ x
get_d_same zero i x = refl
get_d_same (suc n) zero x = refl
get_d_same (suc n) (suc i) x = get_d_same n i x

-- a place past the last outcome reads as a place past the end of the list
pub at_sixteen : (l : List Outcome) (i : ℕ) → get_or (sixteen_places l) i (refused 0) ≡ get_or l i (refused 0)
unfolding sixteen_places
at_sixteen l i = go l i
  where
    go : (m : List Outcome) (j : ℕ) →
        get_or (m ++ replicate (most_primes - length l) (refused 0)) j (refused 0) ≡ get_or m j (refused 0)
    go [] j = get_d_same (most_primes - length l) j (refused 0)
    go (x ∷ m) zero = refl
    go (x ∷ m) (suc j) = go m j

-- ---- a ticket that is not refused
module _ (w : List ℕ) (none : several_refusal w ≡ 0) where
  pub shape_right : wrong_shape w ≡ false
  unfolding several_refusal
  shape_right = (first_none 13 _ _ none).0

  pub degree_right : wrong_degree (degree_of w) ≡ false
  unfolding several_refusal
  degree_right = (first_none 2 _ _ (first_none 13 _ _ none).1).0

  pub degree_most : degree_of w ≤ 64
  degree_most = let e = allowed_degree (degree_of w) degree_right in omega (arith, e.0, e.1)

  -- with as many primes as the words leave room for
  right : RightShape w (prime_count w)
  right = right_shape w shape_right

  pub some_primes : 1 ≤ prime_count w
  some_primes = right.some

  pub primes_most : prime_count w ≤ most_primes
  primes_most = right.most

  pub length_words : length w ≡ degree_of w + 4 + prime_count w
  unfolding degree_of
  length_words = right.words

  pub primes_length : length (primes_of w) ≡ prime_count w
  unfolding primes_of
  primes_length = let e = length_words in simp (length-map, length-take, length-drop) (omega arith)

  pub prime_is : (i : ℕ) → i < prime_count w → get_or (primes_of w) i 0 ≡ value (get_or w (degree_of w + 3 + i) 0)
  unfolding primes_of value
  prime_is i h =
      get_or-map value (take (prime_count w) (drop (degree_of w + 3) w)) i 0
      ∙ ap value (get_or-take (prime_count w) (drop (degree_of w + 3) w) i 0 h ∙ get_or-drop (degree_of w + 3) w i 0)

  -- ---- the outcome at each of them
  pub count_outcomes : length (several_of w) ≡ prime_count w
  count_outcomes = ap length (several_primes w none) ∙ length-map (primes_of w) (λ q. words_outcome (job_words w q)) ∙ primes_length

  -- x is what is read past the end of the list
  pub several_outcome : (i : ℕ) → i < prime_count w → (x : Outcome) →
      get_or (several_of w) i x ≡ words_outcome (job_words w (value (get_or w (degree_of w + 3 + i) 0)))
  several_outcome i h x =
      ap (λ (l : List Outcome). get_or l i x) (several_primes w none)
      ∙ get_or-map_within (λ q. words_outcome (job_words w q)) (primes_of w) i 0 x (omega (arith, primes_length))
      ∙ ap (λ (q : ℕ). words_outcome (job_words w q)) (prime_is i h)

  -- ---- the single job at q
  module _ (q : ℕ) (fits : q < values) where
    job : SingleJob w q (job_words w q)
    job = single_job w right q fits

    pub ticket_of_job_words : ticket_of (job_words w q) ≡ job_at w q
    ticket_of_job_words = job_said w right q fits

    pub D_length : length (job_at w q).D ≡ degree_of w + 1
    unfolding degree_of
    D_length = job_length w right q

    pub job_refused_2 : wrong_prime q ≡ true → refusal_of (job_words w q) ≡ 2
    unfolding degree_of
    job_refused_2 = single_refused_2 w q (job_words w q) job degree_right

    pub job_refusal : wrong_prime q ≡ false → refusal_of (job_words w q) ≡ first_of (radicand_tests (prime q) (degree_of w) (job_at w q).D)
    unfolding degree_of job_at
    job_refusal e =
        single_refusal w q (job_words w q) job degree_right e
        ∙ ap (λ (t : Ticket). first_of (radicand_tests t.field t.n t.D)) ticket_of_job_words
