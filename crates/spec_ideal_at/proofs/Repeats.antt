-- The walk past R: k times round the quasi-period m it has its ideals again, with distances raised by k times
-- the distance of index m, which is R where one is found; and so has the answer.
use Rattle.std.specs.Prelude.{ℕ, suc, ◌+◌, ◌*◌, ◌≤◌, ◌≡◌, List}
use Rattle.std.proofs.Common.{add-suc, arith, ap₂, ◌∙◌}
use Rattle.std.proofs.Math.Path.{sym, ap}
use Rattle.math_algebra.specs.Field.{Field}
use Rattle.math_algebra.specs.Polynomial.{F}
use Rattle.math_symmetry.proofs.Period.{repeats}
use Rattle.math_symmetry.specs.Period as walks
use Rattle.spec_arithmetic.specs.Polynomials.{root}
use Rattle.spec_definitions.specs.Ticket.{Ticket, genus, ticket_of, refusal_of}
use Rattle.spec_definitions.specs.Walk.{Ideal, degree_before}
use Rattle.spec_definitions.specs.Answers.{found, ops_of, root_of, words_outcome}
use Rattle.spec_definitions.specs.Listing.{entry_of}
use Rattle.spec_definitions.specs.Products.{farthest}
use Rattle.spec_bridge.specs.Model.{Model}
use Rattle.spec_fields.specs.Named.{arithmetic}
use Rattle.spec_laws.specs.Surd.{Surd}
use Rattle.spec_laws.specs.Fraction.{fraction}
use Rattle.spec_laws.specs.Convergents.{degree_distance}
use Rattle.spec_laws.specs.Admitted.{Admitted, is_field, surd_of, admitted}
use Rattle.spec_refusals.proofs.LentLists.{found_passes}
use Rattle.spec_expansion.specs.QuasiPeriod.{IsQuasiPeriod}
use Rattle.spec_expansion.proofs.QuasiPeriod.{period_of}
use Rattle.spec_answers.specs.Outcomes.{degree_at}
use Rattle.spec_answers.proofs.Outcomes.{found_period}
use Rattle.spec_giants.specs.Entries.{ideal, Last}
use Rattle.spec_giants.proofs.Entries.{entries_equal}
use Rattle.spec_ideal_at.specs.Halving.{ideal_at_answer}
use Rattle.spec_ideal_at.proofs.Reached.{done_at}
use Rattle.spec_ideal_at.specs.Below.{LastBelow, Listed, Repeated, T2Repeats}
use Rattle.spec_ideal_at.proofs.Below.{done_answer, t2_ideal_at}

module _ (t : Ticket) (h : Admitted t.field (genus t.n) t.D) (m : ℕ) (q : IsQuasiPeriod t m) where
  abbrev K : Field (arithmetic t.field (is_field h)).Elements
  K = (arithmetic t.field (is_field h)).K

  abbrev M : Model (ops_of t) (F K)
  M = (arithmetic t.field (is_field h)).M

  abbrev z : Surd K M (genus t.n) t.D (root (ops_of t) t.D (suc (genus t.n)))
  z = surd_of h

  round : walks.Repeats K (fraction z) m
  round = repeats K (fraction z) m (period_of t h m q).constant

  distance_round : (k i : ℕ) → degree_at t (k * m + i) ≡ k * degree_at t m + degree_at t i
  unfolding root_of degree_before
  distance_round k i =
      degree_distance z (k * m + i)
      ∙ round.distance_is k i
      ∙ sym (ap₂ (λ (a b : ℕ). k * a + b) (degree_distance z m) (degree_distance z i))

  repeated : Repeated t m
  repeated = record { ideal = λ k i. entries_equal t h (k * m + i) i (round.ideal k i); distance = distance_round }

-- ---- the answer
module _ (w : List ℕ) (R m c : ℕ) (f : words_outcome w ≡ found R m c) (k y : ℕ) (within : k * R + y ≤ farthest) where
  abbrev t : Ticket
  t = ticket_of w

  past : refusal_of w ≡ 0
  past = found_passes w R m c f

  -- where the answer at y stands
  below : (b : LastBelow t y (ideal_at_answer w y)) × Listed t b.at (ideal_at_answer w y)
  below = t2_ideal_at w past y (omega (arith, within))

  abbrev i : ℕ
  i = below.0.at

  round_of : Repeated t m
  round_of = repeated t (admitted w past) m (found_period w R m c f).0

  raised : (j : ℕ) → degree_at t (k * m + j) ≡ k * R + degree_at t j
  raised j = round_of.distance k j ∙ ap (λ (r : ℕ). k * r + degree_at t j) (sym (found_period w R m c f).1)

  next_raised : degree_at t (suc (k * m + i)) ≡ k * R + degree_at t (suc i)
  next_raised = ap (degree_at t) (sym (add-suc (k * m) i)) ∙ raised (suc i)

  last_raised : Last t (k * R + y) (k * m + i)
  unfolding entry_of degree_before
  last_raised = record {
    low = omega (arith, raised i, below.0.low, below.0.distance);
    high = omega (arith, next_raised, below.0.high, below.0.next);
  }

  Q_raised : (ideal_at_answer w y).q ≡ (ideal t (k * m + i)).q
  Q_raised = below.1.0 ∙ ap (λ (x : Ideal ℕ). x.q) (sym (round_of.ideal k i))

  P_raised : (ideal_at_answer w y).p ≡ (ideal t (k * m + i)).p
  P_raised = below.1.1 ∙ ap (λ (x : Ideal ℕ). x.p) (sym (round_of.ideal k i))

  answer_raised : ideal_at_answer w (k * R + y) ≡ record { number = 0; q = (ideal_at_answer w y).q; p = (ideal_at_answer w y).p; distance = k * R + (ideal_at_answer w y).distance; next = k * R + (ideal_at_answer w y).next }
  unfolding entry_of degree_before
  answer_raised =
      let distance_is : k * R + (ideal_at_answer w y).distance ≡ degree_at t (k * m + i) = ap (λ (n : ℕ). k * R + n) below.0.distance ∙ sym (raised i) in
      let next_is : k * R + (ideal_at_answer w y).next ≡ degree_at t (suc (k * m + i)) = ap (λ (n : ℕ). k * R + n) below.0.next ∙ sym next_raised in
      done_answer w (k * R + y) past within ∙ sym (done_at t (admitted w past) last_raised Q_raised P_raised distance_is next_is)

pub t2_repeats : T2Repeats
t2_repeats = record {
  ideals = λ w past m q. repeated (ticket_of w) (admitted w past) m q;
  regulator = found_period;
  answer = answer_raised;
}
