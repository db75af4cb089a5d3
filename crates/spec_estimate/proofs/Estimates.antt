-- The proofs of specs/Estimates.
use Rattle.std.specs.Prelude.{ℕ, suc, ◌+◌, ◌≤◌, ◌<◌, ◌≡◌, refl, List}
use Rattle.std.proofs.Common.{arith, sym, subst, ⊎_elim}
use Rattle.math_counting.specs.HowMany.{HowMany}
use Rattle.spec_arithmetic.specs.Field.{ops}
use Rattle.spec_definitions.specs.Ticket.{Ticket, genus, ticket_of, refusal_of}
use Rattle.spec_fields.specs.Named.{IsField, some_elements}
use Rattle.spec_laws.specs.Admitted.{Admitted, is_field, admitted}
use Rattle.spec_sentences.specs.Tests.{Tests}
use Rattle.spec_sentences.proofs.Tests.{tests_lt, tests_either}
use Rattle.spec_answers.proofs.Further.{words_refused, own_refused, is_done, further_number, further_refused}
use Rattle.spec_estimate.specs.Estimate.{evaluate, square?, non_square?, squares_of, non_squares_of, numerator_of, denominator_of, too_large, EstimateAnswer, estimate_is, estimate_done, estimate_refused, estimate_answer}
use Rattle.spec_estimate.specs.Values.{Value}
use Rattle.spec_estimate.proofs.Values.{value_is, value_unique}
use Rattle.spec_estimate.specs.Squares.{Square, NonSquare}
use Rattle.spec_estimate.proofs.Squares.{tests_square, tests_non_square, square_apart, how_many_below, count_apart}
use Rattle.spec_estimate.proofs.Rounding.{rounds}
use Rattle.spec_estimate.specs.Bounds.{Fits}
use Rattle.spec_estimate.proofs.Bounds.{bounds}
use Rattle.spec_estimate.specs.Estimates.{AboveThese, EstimateZero, T1Estimate, SquareAt, NonSquareAt, Estimated, T2Estimate, T2Fits}

-- ---- the proof
-- ---- the answer by its cases
tests_large : (t : Ticket) → Tests (too_large t) (AboveThese t)
unfolding too_large
tests_large t = tests_either (tests_lt 13 t.field.q) (tests_lt 8 t.n)

module _ (w : List ℕ) where
  pub refused_answer : (k : ℕ) → refusal_of w ≡ suc k → estimate_answer w ≡ estimate_refused (suc k)
  unfolding estimate_answer
  refused_answer = words_refused estimate_refused 15 (estimate_done (ticket_of w)) w (tests_large (ticket_of w))

  pub large_answer : refusal_of w ≡ 0 → AboveThese (ticket_of w) → estimate_answer w ≡ estimate_refused 15
  unfolding estimate_answer
  large_answer = own_refused estimate_refused 15 (estimate_done (ticket_of w)) w (tests_large (ticket_of w))

  pub done_answer : refusal_of w ≡ 0 → (ticket_of w).field.q ≤ 13 → (ticket_of w).n ≤ 8 → estimate_answer w ≡ estimate_done (ticket_of w)
  unfolding estimate_answer
  done_answer e few low = is_done estimate_refused 15 (estimate_done (ticket_of w)) w (tests_large (ticket_of w)) e (⊎_elim (λ l. omega arith) (λ l. omega arith))

refused_zeros : (k : ℕ) → EstimateZero (estimate_refused k)
unfolding estimate_refused
refused_zeros k = (refl, refl, refl)

pub t1_estimate : T1Estimate
unfolding estimate_answer estimate_refused estimate_done estimate_is
t1_estimate w =
    let x = further_number estimate_refused 15 (estimate_done (ticket_of w)) w (tests_large (ticket_of w)) (λ r. r.number) (λ k. refl) refl in
    let y = further_refused estimate_refused 15 (estimate_done (ticket_of w)) w (tests_large (ticket_of w)) (λ r. r.number) (λ k. refl) refl in
    record { number = x; zeros = y EstimateZero refused_zeros }

-- ---- a ticket of an admitted D
module _ (t : Ticket) (h : Admitted t.field (genus t.n) t.D) where
  abbrev q : ℕ
  q = t.field.q

  abbrev named : IsField t.field
  named = is_field h

  value : (e : ℕ) → Value t.field t.D e (evaluate (ops t.field) t.D e)
  value e = value_is t.field named t.D e

  square_tested : (e : ℕ) → Tests (square? t.field (evaluate (ops t.field) t.D e)) (SquareAt t e)
  square_tested e =
      let v : ℕ = evaluate (ops t.field) t.D e in
      let s = tests_square t.field v (some_elements t.field named) in
      (λ b. (v, value e, s.0 b), λ x. s.1 (subst (Square q) (value_unique t.field named t.D e x.1 (value e)) x.2))

  non_square_tested : (e : ℕ) → Tests (non_square? t.field (evaluate (ops t.field) t.D e)) (NonSquareAt t e)
  non_square_tested e =
      let v : ℕ = evaluate (ops t.field) t.D e in
      let s = tests_non_square t.field v (some_elements t.field named) (value e).below in
      (λ b. (v, value e, s.0 b), λ x. s.1 (subst (NonSquare q) (value_unique t.field named t.D e x.1 (value e)) x.2))

  pub squares_many : HowMany (λ e. (e < q) × SquareAt t e) (squares_of t.field t.D)
  unfolding squares_of
  squares_many = how_many_below (SquareAt t) _ q (λ e _. square_tested e)

  pub non_squares_many : HowMany (λ e. (e < q) × NonSquareAt t e) (non_squares_of t.field t.D)
  unfolding non_squares_of
  non_squares_many = how_many_below (NonSquareAt t) _ q (λ e _. non_square_tested e)

  -- no element counts twice
  pub counts_most : squares_of t.field t.D + non_squares_of t.field t.D ≤ q
  unfolding squares_of non_squares_of
  counts_most = count_apart _ _ (λ x. square_apart t.field (evaluate (ops t.field) t.D x)) q

  module _ (few : q ≤ 13) (low : t.n ≤ 8) where
    pub fits : Fits (estimate_done t).numerator (estimate_done t).denominator
    unfolding estimate_done estimate_is numerator_of denominator_of genus
    fits = bounds q (genus t.n) (squares_of t.field t.D) (non_squares_of t.field t.D) named.odd few (omega arith) counts_most

    pub estimated : Estimated t (estimate_done t)
    unfolding estimate_done estimate_is numerator_of denominator_of
    estimated = record {
      number = refl;
      squares = squares_of t.field t.D;
      squares_are = squares_many;
      non_squares = non_squares_of t.field t.D;
      non_squares_are = non_squares_many;
      numerator = refl;
      denominator = refl;
      nearest = rounds.is _ _ fits.some;
    }

pub t2_estimate : T2Estimate
t2_estimate w e few low = subst (Estimated (ticket_of w)) (sym (done_answer w e few low)) (estimated (ticket_of w) (admitted w e) few low)

pub t2_fits : T2Fits
t2_fits w e few low = subst (λ (r : EstimateAnswer). Fits r.numerator r.denominator) (sym (done_answer w e few low)) (fits (ticket_of w) (admitted w e) few low)
