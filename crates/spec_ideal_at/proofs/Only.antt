-- No other answer is refused so and stands so: Q and P of an index, with no zeros at the end, have one list
-- each, and the last index with a distance of at most y is one.
use Rattle.std.specs.Prelude.{ℕ, zero, suc, ◌≤◌, ◌<◌, ◌≡◌, refl, ◌≢◌, List, length, get_or}
use Rattle.std.proofs.Common.{arith, sym, ap, ◌∙◌, inl, inr, ⊎_elim, ext_get_or}
use Rattle.math_ring.specs.Order.{le_or_lt}
use Rattle.math_algebra.specs.Field.{Field}
use Rattle.math_algebra.specs.Polynomial.{F}
use Rattle.spec_arithmetic.specs.Polynomials.{size}
use Rattle.spec_definitions.specs.Ticket.{Ticket, genus, ticket_of, refusal_of}
use Rattle.spec_definitions.specs.Walk.{degree_before}
use Rattle.spec_definitions.specs.Walk as walk
use Rattle.spec_definitions.specs.Answers.{ops_of, root_of}
use Rattle.spec_definitions.specs.Listing.{entry_of}
use Rattle.spec_definitions.specs.Products.{farthest}
use Rattle.spec_bridge.specs.Model.{Model, series}
use Rattle.spec_fields.specs.Named.{Ok, arithmetic}
use Rattle.spec_laws.specs.Admitted.{Admitted, is_field, admitted}
use Rattle.spec_answers.proofs.Refusals.{none_applies, number_first}
use Rattle.spec_answers.proofs.Records.{size_same}
use Rattle.spec_uniqueness.proofs.Records.{below_unique, monic_unique, rest_unique}
use Rattle.spec_giants.specs.Entries.{ideal, Last}
use Rattle.spec_ideal_at.specs.Halving.{IdealAtAnswer, ideal_at_done, ideal_at_refused, ideal_at_answer}
use Rattle.spec_ideal_at.proofs.Reached.{done_at}
use Rattle.spec_ideal_at.specs.Below.{IdealAtZero, RefusedFirst, IdealOfIndex, LastBelow, IdealAtOnly}
use Rattle.spec_ideal_at.proofs.Below.{refused_answer, far_answer, done_answer, index_ideal}

-- ---- the lists of an index
module _ (t : Ticket) (h : Admitted t.field (genus t.n) t.D) where
  abbrev K : Field (arithmetic t.field (is_field h)).Elements
  K = (arithmetic t.field (is_field h)).K

  abbrev M : Model (ops_of t) (F K)
  M = (arithmetic t.field (is_field h)).M

  -- lists of admissible coefficients with no zero at their end that have the same polynomial
  lists_equal : (l u : List ℕ) → ((j : ℕ) → Ok t.field (get_or l j 0)) → ((j : ℕ) → Ok t.field (get_or u j 0)) → length l ≡ size (ops_of t) l → length u ≡ size (ops_of t) u → series M l ≡ series M u → l ≡ u
  lists_equal l u low low' whole whole' e = ext_get_or 0 l u (whole ∙ size_same t.field (is_field h) l u same ∙ sym whole') (λ j _. same j)
    where
      same : (j : ℕ) → get_or l j 0 ≡ get_or u j 0
      same = below_unique h l u low low' e

  module _ (i : ℕ) {q p q' p' : List ℕ} (x : IdealOfIndex t i q p) (y : IdealOfIndex t i q' p') where
    Q_series : series M q ≡ series M q'
    Q_series = monic_unique h (walk.Q (ops_of t) t.D (root_of t) i) q q' x.Q_monic y.Q_monic x.Q_ratio y.Q_ratio

    P_series : series M p ≡ series M p'
    P_series = sym (rest_unique h (walk.P (ops_of t) t.D (root_of t) i) q q' p p' x.Q_monic Q_series x.P_congruent y.P_congruent x.P_less y.P_less)

    ideal_unique : (q ≡ q') × (p ≡ p')
    ideal_unique = (lists_equal q q' x.Q_below y.Q_below x.Q_whole y.Q_whole Q_series, lists_equal p p' x.P_below y.P_below x.P_whole y.P_whole P_series)

  -- ---- past the refusals
  stands_only : (y : ℕ) (a : IdealAtAnswer) → LastBelow t y a → a ≡ ideal_at_done t y
  unfolding entry_of degree_before
  stands_only y a b = whole ∙ done_at t h last same.0 same.1 b.distance b.next
    where
      last : Last t y b.at
      last = record { low = omega (arith, b.low, b.distance); high = omega (arith, b.high, b.next) }

      same : (a.q ≡ (ideal t b.at).q) × (a.p ≡ (ideal t b.at).p)
      same = ideal_unique b.at b.ideal (index_ideal t h b.at)

      whole : a ≡ record { number = 0; q = a.q; p = a.p; distance = a.distance; next = a.next }
      whole = ap (λ (k : ℕ). record { number = k; q = a.q; p = a.p; distance = a.distance; next = a.next }) b.number

-- ---- a refusal
refused_only : (w : List ℕ) (y : ℕ) (a : IdealAtAnswer) → RefusedFirst w y a → (k : ℕ) → k ≢ 0 → a.number ≡ k → a ≡ ideal_at_refused k
unfolding ideal_at_refused
refused_only w y a r k some e = λ s. record { number = e s; q = zeros.0 s; p = zeros.1 s; distance = zeros.2 s; next = zeros.3 s }
  where
    zeros : IdealAtZero a
    zeros = r.zeros (λ z. some (sym e ∙ z))

pub ideal_at_only : IdealAtOnly
ideal_at_only w y a r stands = go (refusal_of w) refl
  where
    go : (n : ℕ) → refusal_of w ≡ n → a ≡ ideal_at_answer w y
    go zero z = ⊎_elim near far (le_or_lt y farthest)
      where
        near : y ≤ farthest → a ≡ ideal_at_answer w y
        near l = stands_only (ticket_of w) (admitted w z) y a (stands z l) ∙ sym (done_answer w y z l)

        far : farthest < y → a ≡ ideal_at_answer w y
        far l = refused_only w y a r 10 (λ e. omega arith) ((r.number 10 (λ e. omega arith)).1 (inr (refl, none_applies w z, l))) ∙ sym (far_answer w y z l)
    go (suc k) z =
        let some : suc k ≢ 0 = λ e. omega arith in
        refused_only w y a r (suc k) some ((r.number (suc k) some).1 (inl (number_first w (suc k) some z))) ∙ sym (refused_answer w y k z)
