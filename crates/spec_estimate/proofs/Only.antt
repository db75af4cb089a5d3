-- No other answer is refused so and estimates so: there is one number of nonzero squares and one of non-squares, and one
-- nearest whole number.
use Rattle.std.specs.Prelude.{ℕ, zero, suc, ◌+◌, ◌-◌, ◌*◌, ◌^◌, ◌≤◌, ◌<◌, ◌≡◌, refl, ◌≢◌, List}
use Rattle.std.proofs.Common.{arith, sym, ap₂, ◌∙◌, subst, inl, inr, ⊎_elim}
use Rattle.math_counting.proofs.HowMany.{how_many_unique}
use Rattle.math_ring.specs.Order.{le_or_lt}
use Rattle.spec_definitions.specs.Ticket.{Ticket, genus, ticket_of, refusal_of}
use Rattle.spec_laws.specs.Admitted.{Admitted, admitted}
use Rattle.spec_answers.proofs.Refusals.{none_applies, number_first}
use Rattle.spec_estimate.specs.Estimate.{squares_of, non_squares_of, numerator_of, denominator_of, nearest_of, EstimateAnswer, estimate_is, estimate_done, estimate_refused, estimate_answer}
use Rattle.spec_estimate.proofs.Rounding.{rounds}
use Rattle.spec_estimate.specs.Estimates.{AboveThese, RefusedFirst, Estimated, EstimateOnly}
use Rattle.spec_estimate.proofs.Estimates.{refused_answer, large_answer, done_answer, squares_many, non_squares_many, fits}

answer_path : {r a : EstimateAnswer} → r.number ≡ a.number → r.numerator ≡ a.numerator → r.denominator ≡ a.denominator → r.nearest ≡ a.nearest → r ≡ a
answer_path e n d w = λ i. record { number = e i; numerator = n i; denominator = d i; nearest = w i }

-- ---- past the refusals
estimated_only : (t : Ticket) → Admitted t.field (genus t.n) t.D → t.field.q ≤ 13 → t.n ≤ 8 → (r : EstimateAnswer) → Estimated t r → r ≡ estimate_done t
unfolding estimate_done estimate_is numerator_of denominator_of
estimated_only t h few low r x = answer_path x.number numerator denominator (rounds.only _ _ _ some x.nearest ∙ ap₂ nearest_of numerator denominator)
  where
    q : ℕ
    q = t.field.q

    squares : x.squares ≡ squares_of t.field t.D
    squares = how_many_unique _ _ _ x.squares_are (squares_many t h)

    non_squares : x.non_squares ≡ non_squares_of t.field t.D
    non_squares = how_many_unique _ _ _ x.non_squares_are (non_squares_many t h)

    numerator : r.numerator ≡ (estimate_done t).numerator
    numerator = x.numerator ∙ ap₂ (λ (a s : ℕ). q ^ (genus t.n + 1 + a + s)) squares non_squares

    denominator : r.denominator ≡ (estimate_done t).denominator
    denominator = x.denominator ∙ ap₂ (λ (a s : ℕ). (q - 1) ^ (a + 1) * (q + 1) ^ s) squares non_squares

    some : 0 < r.denominator
    some = subst (λ (k : ℕ). 0 < k) (sym denominator) (fits t h few low).some

-- ---- a refusal
refused_only : (w : List ℕ) (r : EstimateAnswer) → RefusedFirst w r → (k : ℕ) → k ≢ 0 → r.number ≡ k → r ≡ estimate_refused k
unfolding estimate_refused
refused_only w r f k some e = let z = f.zeros (λ n. some (sym e ∙ n)) in answer_path e z.0 z.1 z.2

pub estimate_only : EstimateOnly
estimate_only w r f x = go (refusal_of w) refl
  where
    go : (n : ℕ) → refusal_of w ≡ n → r ≡ estimate_answer w
    go zero z = ⊎_elim (λ few. ⊎_elim (λ low. estimated_only (ticket_of w) (admitted w z) few low r (x z few low) ∙ sym (done_answer w z few low)) (λ l. large (inr l)) (le_or_lt (ticket_of w).n 8)) (λ l. large (inl l)) (le_or_lt (ticket_of w).field.q 13)
      where
        large : AboveThese (ticket_of w) → r ≡ estimate_answer w
        large a = refused_only w r f 15 (λ e. omega arith) ((f.number 15 (λ e. omega arith)).1 (inr (refl, none_applies w z, a))) ∙ sym (large_answer w z a)
    go (suc k) z =
        let some : suc k ≢ 0 = λ e. omega arith in
        refused_only w r f (suc k) some ((f.number (suc k) some).1 (inl (number_first w (suc k) some z))) ∙ sym (refused_answer w k z)
