-- The proofs of specs/Below.
use Prim.Native.Nat.{ℕ, zero, suc, ◌/◌, ◌≤◌, ◌<◌}
use Rattle.std.proofs.Common.{arith, sym, ap₂, ◌∙◌, subst, inl, inr, ⊎_elim, lt-ltb, le-ltb}
use Rattle.std.specs.Prelude.{◌≡◌, ◌↔◌, ◌≢◌, ◌⊎◌, Bool, true, false, ◌||◌, ltb, get_or}
use Rattle.std.proofs.Math.Path.{refl, ap}
use mathlib.Core.List.{List}
use Rattle.std.proofs.Math.ListN.{length}
use Rattle.math_ring.specs.Order.{le_or_lt}
use Rattle.math_giants.proofs.Below.{halves}
use Rattle.spec_arithmetic.specs.Field.{reading}
use Rattle.spec_arithmetic.specs.Polynomials.{size, lead}
use Rattle.spec_definitions.specs.Ticket.{Ticket, genus, ticket_of, refusal_of}
use Rattle.spec_definitions.specs.Walk.{degree_before}
use Rattle.spec_definitions.specs.Walk as walk
use Rattle.spec_definitions.specs.Answers.{ops_of, root_of}
use Rattle.spec_definitions.specs.Listing.{ideal_of, entry_of}
use Rattle.spec_definitions.specs.Products.{farthest, wrong_distance}
use Rattle.spec_fields.specs.Named.{arithmetic}
use Rattle.spec_laws.specs.Admitted.{Admitted, is_field, admitted}
use Rattle.spec_sentences.proofs.Arithmetic.{lead_is_one}
use Rattle.spec_answers.specs.Refusals.{First, None}
use Rattle.spec_answers.proofs.Refusals.{passes, none_applies, first_number, number_first}
use Rattle.spec_answers.proofs.Records.{lead_inverse, monic_is, rem_congruent}
use Rattle.spec_giants.specs.Entries.{ideal, δ, Last, entry_ideal}
use Rattle.spec_giants.proofs.Entries.{q_trim, p_trim, p_length, q_oks, p_oks, last_most}
use Rattle.spec_ideal_at.specs.Halving.{doubled, ideal_below, IdealAtAnswer, ideal_at_done, ideal_at_refused, ideal_at_answer}
use Rattle.spec_ideal_at.specs.Reached.{Reached, Doubled}
use Rattle.spec_ideal_at.proofs.Reached.{reached, double_at, landing_near, below_halved, done_at}
use Rattle.spec_ideal_at.specs.Below.{IdealAtZero, T1IdealAt, IdealOfIndex, LastBelow, Listed, T2IdealAt, Inside, T2Inside}

-- ---- the proof
-- ---- the answer by its cases
module _ (w : List ℕ) (y : ℕ) where
  abbrev past : Bool → IdealAtAnswer
  past b = elim b [ true ↦ ideal_at_refused 10 | false ↦ ideal_at_done (ticket_of w) y ]

  answer_by : (k : ℕ) → refusal_of w ≡ k → ideal_at_answer w y ≡ (elim k as (λ _. IdealAtAnswer) [ zero ↦ past (ltb farthest y) | suc j ↦ ideal_at_refused (suc j) ])
  unfolding ideal_at_answer
  answer_by k e = ap (λ (k : ℕ). elim k as (λ _. IdealAtAnswer) [ zero ↦ past (ltb farthest y) | suc j ↦ ideal_at_refused (suc j) ]) e

  pub refused_answer : (k : ℕ) → refusal_of w ≡ suc k → ideal_at_answer w y ≡ ideal_at_refused (suc k)
  refused_answer k e = answer_by (suc k) e

  pub far_answer : refusal_of w ≡ 0 → farthest < y → ideal_at_answer w y ≡ ideal_at_refused 10
  far_answer e l = answer_by 0 e ∙ ap past (lt-ltb farthest y l)

  pub done_answer : refusal_of w ≡ 0 → y ≤ farthest → ideal_at_answer w y ≡ ideal_at_done (ticket_of w) y
  done_answer e l = answer_by 0 e ∙ ap past (le-ltb farthest y l)

  -- ---- T1
  answer_number : {k : ℕ} → ideal_at_answer w y ≡ ideal_at_refused k → (ideal_at_answer w y).number ≡ k
  unfolding ideal_at_refused
  answer_number e = ap (λ (a : IdealAtAnswer). a.number) e

  done_number : (ideal_at_done (ticket_of w) y).number ≡ 0
  unfolding ideal_at_done
  done_number = refl

  refused_zeros : (k : ℕ) → IdealAtZero (ideal_at_refused k)
  unfolding ideal_at_refused
  refused_zeros k = (refl, refl, refl, refl)

  number_by : (k : ℕ) → k ≢ 0 → ((ideal_at_answer w y).number ≡ k) ↔ (First k w ⊎ ((k ≡ 10) × None w × (farthest < y)))
  number_by k some = (λ e. go (refusal_of w) refl e, ⊎_elim (λ f. from_first k (first_number w f) some) (λ f. answer_number (far_answer (passes w f.1) f.2) ∙ sym f.0))
    where
      from_first : (k : ℕ) → refusal_of w ≡ k → k ≢ 0 → (ideal_at_answer w y).number ≡ k
      from_first zero e not = absurd (not refl)
      from_first (suc k) e not = answer_number (refused_answer k e)

      go : (n : ℕ) → refusal_of w ≡ n → (ideal_at_answer w y).number ≡ k → First k w ⊎ ((k ≡ 10) × None w × (farthest < y))
      go zero z e = ⊎_elim (λ l. absurd (some (sym e ∙ ap (λ (a : IdealAtAnswer). a.number) (done_answer z l) ∙ done_number))) (λ l. inr (sym e ∙ answer_number (far_answer z l), none_applies w z, l)) (le_or_lt y farthest)
      go (suc n) z e = inl (number_first w k some (z ∙ sym (answer_number (refused_answer n z)) ∙ e))

  zeros_by : (ideal_at_answer w y).number ≢ 0 → IdealAtZero (ideal_at_answer w y)
  zeros_by some = go (refusal_of w) refl
    where
      from : (k : ℕ) → ideal_at_answer w y ≡ ideal_at_refused k → IdealAtZero (ideal_at_answer w y)
      from k e = subst IdealAtZero (sym e) (refused_zeros k)

      go : (n : ℕ) → refusal_of w ≡ n → IdealAtZero (ideal_at_answer w y)
      go zero z = ⊎_elim (λ l. absurd (some (ap (λ (a : IdealAtAnswer). a.number) (done_answer z l) ∙ done_number))) (λ l. from 10 (far_answer z l)) (le_or_lt y farthest)
      go (suc n) z = from (suc n) (refused_answer n z)

pub t1_ideal_at : T1IdealAt
t1_ideal_at w y = record { number = number_by w y; zeros = zeros_by w y }

-- ---- T2
module _ (t : Ticket) (h : Admitted t.field (genus t.n) t.D) where
  pub index_ideal : (i : ℕ) → IdealOfIndex t i (ideal t i).q (ideal t i).p
  unfolding entry_of ideal_of root_of size
  index_ideal i =
      let Q : List ℕ = walk.Q (ops_of t) t.D (root_of t) i in
      record {
        Q_monic = lead_is_one t.field (is_field h) (ideal t i).q (q_oks t h i) (entry_ideal t h i).monic;
        Q_ratio = ((ops_of t).inv (lead (ops_of t) Q), lead_inverse h i, (arithmetic t.field (is_field h)).ok_is _ ((arithmetic t.field (is_field h)).I.ok_inv (lead (ops_of t) Q)), λ j. ap (λ (l : List ℕ). reading t.field (get_or l j 0)) (monic_is h i));
        P_congruent = rem_congruent h (walk.P (ops_of t) t.D (root_of t) i) (ideal t i).q (ideal t i).q (ideal t i).p (λ j. refl) (λ j. refl);
        P_less = let a = ap length (q_trim t h i) in let b = ap length (p_trim t h i) in let c = p_length t h i in omega arith;
        Q_below = q_oks t h i;
        P_below = p_oks t h i;
        Q_whole = ap length (sym (q_trim t h i));
        P_whole = ap length (sym (p_trim t h i));
      }

  -- the answer of the last index
  abbrev answer_of : ℕ → IdealAtAnswer
  answer_of i = record { number = 0; q = (ideal t i).q; p = (ideal t i).p; distance = δ t i; next = δ t (suc i) }

  stands : {y i : ℕ} → Last t y i → (b : LastBelow t y (answer_of i)) × Listed t b.at (answer_of i)
  unfolding entry_of degree_before
  stands {y} {i} l = (record { number = refl; at = i; ideal = index_ideal i; distance = refl; next = refl; low = l.low; high = l.high; last = last_most t h l }, (refl, refl))

  done_stands : (y : ℕ) → (b : LastBelow t y (ideal_at_done t y)) × Listed t b.at (ideal_at_done t y)
  done_stands y = let r = reached t h y in subst (λ (a : IdealAtAnswer). (b : LastBelow t y a) × Listed t b.at a) (done_at t h r.last refl refl refl refl) (stands r.last)

  inside : (y : ℕ) → y ≤ farthest → Inside t y
  unfolding wrong_distance
  inside y l = record { handed = handed; near = near; landed = landed; halved = below_halved t h y }
    where
      r : Reached t (y / 2) (ideal_below t (y / 2))
      r = reached t h (y / 2)

      handed : (ideal_below t (y / 2)).distance ≤ y / 2
      handed = let a = r.last.low in let b = r.is.distance_is in omega arith

      near : (ltb farthest (ideal_below t (y / 2)).distance || ltb farthest (ideal_below t (y / 2)).distance) ≡ false
      near =
          let e = le-ltb farthest (ideal_below t (y / 2)).distance (omega (arith, halves y, handed)) in
          ap₂ ◌||◌ e e

      landed : (doubled t (ideal_below t (y / 2))).distance ≤ y
      landed = let a : Doubled t h r.at (doubled t (ideal_below t (y / 2))) = double_at t h r.is in let b = (landing_near t h {y = y} r.last a.at a.few a.sum).0 in let c = a.is.distance_is in omega arith

pub t2_ideal_at : T2IdealAt
t2_ideal_at w e y l = subst (λ (a : IdealAtAnswer). (b : LastBelow (ticket_of w) y a) × Listed (ticket_of w) b.at a) (sym (done_answer w y e l)) (done_stands (ticket_of w) (admitted w e) y)

pub t2_inside : T2Inside
t2_inside w e y l = inside (ticket_of w) (admitted w e) y l
