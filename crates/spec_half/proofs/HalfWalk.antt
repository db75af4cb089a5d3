-- The proofs of specs/HalfWalk.
use Prim.Native.Nat.{ℕ, zero, suc, ◌+◌, ◌*◌, ◌≤◌, ◌<◌}
use Rattle.std.proofs.Common.{eq-zero-or-pos, arith, ◌∙◌, ⊎_elim}
use Rattle.std.specs.Prelude.{◌≡◌, ◌↔◌, ◌≢◌, ◌⊎◌}
use Rattle.std.proofs.Math.Path.{refl, sym, ap, subst}
use Rattle.std.proofs.Math.Logic.{inl, inr}
use mathlib.Core.List.{List}
use Rattle.std.proofs.Math.Option.{Option, none, some}
use Rattle.math_ring.specs.Order.{le_or_lt}
use Rattle.math_ring.specs.Series.{con, conv}
use Rattle.math_algebra.specs.Field.{Field}
use Rattle.math_algebra.specs.Polynomial.{F}
use Rattle.math_algebra.specs.Associate.{Associate}
use Rattle.math_symmetry.specs.Half.{NoMiddle}
use Rattle.math_symmetry.specs.Half as field
use Rattle.spec_arithmetic.specs.Field.{FieldName, Ops, ops}
use Rattle.spec_arithmetic.specs.Polynomials.{deg, scale, root}
use Rattle.spec_definitions.specs.Ticket.{Ticket, genus, ticket_of, refusal_of}
use Rattle.spec_definitions.specs.Walk.{quasi_period, degree_before, constant_of}
use Rattle.spec_definitions.specs.Walk as walk
use Rattle.spec_definitions.specs.Answers.{Outcome, found, spent, refused, Said, said, said_injective, ops_of, root_of, outcome_of, words_outcome, regulator_of}
use Rattle.spec_bridge.specs.Model.{Model, series}
use Rattle.spec_bridge.specs.Arithmetic.{series_scale}
use Rattle.spec_fields.specs.Named.{IsField, Arithmetic, arithmetic}
use Rattle.spec_laws.specs.Surd.{Surd}
use Rattle.spec_laws.specs.Fraction.{fraction}
use Rattle.spec_laws.specs.QuasiPeriod.{Quasi, NoQuasi, Says, quasi_says, some_quasi}
use Rattle.spec_laws.specs.Admitted.{Admitted, is_field, surd_of, admitted}
use Rattle.spec_laws.specs.Cases as full
use Rattle.spec_sentences.proofs.Arithmetic.{series_same, same_series}
use Rattle.spec_demands.specs.Continued.{sum_to, Walks}
use Rattle.spec_demands.proofs.Continued.{t2}
use Rattle.spec_demands.proofs.LeastDegree.{least_spent, least_found}
use Rattle.spec_expansion.specs.QuasiPeriod.{IsQuasiPeriod}
use Rattle.spec_expansion.proofs.QuasiPeriod.{t2_exists, quasi_of}
use Rattle.spec_answers.specs.Refusals.{First}
use Rattle.spec_answers.proofs.Refusals.{t1_answers}
use Rattle.spec_answers.specs.Outcomes.{degree_at}
use Rattle.spec_half.specs.Half.{Middle, by_q, by_p, middle_period, first_middle, degrees_to, middle_regulator, HalfOutcome, half_found, half_spent, half_refused, half_said, half_of, words_half, half_answer}
use Rattle.spec_half.proofs.Half.{half_said_injective}
use Rattle.spec_half.specs.Middles.{Searched}
use Rattle.spec_half.proofs.Middles.{first_middle_searched}
use Rattle.spec_half.specs.Duplication.{HalfSays}
use Rattle.spec_half.proofs.Duplication.{half_says}
use Rattle.spec_half.proofs.Cases.{spent_not_found, refused_not_found, refused_not_spent, found_numbers, spent_numbers, refused_number}
use Rattle.spec_half.specs.HalfWalk.{ConstantTimes, with_budget, T1Half, MiddleP, NoneBefore, HalfEnds, halved, SameAsFull, HalfFoundOrSpent, T2Half, LeastHalfIn, LeastHalf, T3Half, T1HalfNumbers, HalfOnly}
use Rattle.spec_half.specs.HalfWalk as defs

-- ---- the proof
-- the tests of lists are those over the field
module _ {f : FieldName} (named : IsField f) where
  abbrev A : Arithmetic f
  A = arithmetic f named

  abbrev K : Field A.Elements
  K = A.K

  abbrev M : Model (ops f) (F K)
  M = A.M

  constant_associate : {x y : List ℕ} → ConstantTimes f x y → Associate K (series M x) (series M y)
  constant_associate {x} {y} t = record {
    factor = M.φ t.k;
    some = λ e. let z : t.k ≡ 0 = M.inj _ _ (A.ok_of _ t.below) M.ok_zer (e ∙ sym M.φ_zer) in let p = t.positive in omega arith;
    is = same_series f named x (scale (ops f) t.k y) t.is ∙ series_scale M t.k y;
  }

  associate_constant : {x y : List ℕ} → Associate K (series M x) (series M y) → ConstantTimes f x y
  associate_constant {x} {y} t = record {
    k = c;
    positive = ⊎_elim (λ z. absurd (t.some (sym back ∙ ap M.φ z ∙ M.φ_zer))) (λ p. p) (eq-zero-or-pos c);
    below = A.ok_is _ (A.onto.ok_back t.factor);
    is = series_same f named x (scale (ops f) c y) (t.is ∙ sym (series_scale M c y ∙ ap (λ (u : A.Elements). conv (F K) (con (F K) u) (series M y)) back));
  }
    where
      c : ℕ
      c = A.onto.back t.factor

      back : M.φ c ≡ t.factor
      back = A.onto.φ_back t.factor

-- ---- for a ticket whose D is admitted
module _ (t : Ticket) (h : Admitted t.field (genus t.n) t.D) where
  abbrev o : Ops ℕ
  o = ops_of t

  abbrev D : List ℕ
  D = t.D

  abbrev d : List ℕ
  d = root o D (suc (genus t.n))

  abbrev b : ℕ
  b = t.b

  abbrev named : IsField t.field
  named = is_field h

  abbrev z : Surd (K named) (M named) (genus t.n) D d
  z = surd_of h

  -- the outcome by where it stops
  abbrev outcome_by : Option Middle → HalfOutcome
  outcome_by x = elim x [ none ↦ half_spent b (degree_before o D d b) | some y ↦ half_found (middle_regulator o D d y) (middle_period y) ]

  -- ---- where it stops
  degrees_sum : (i : ℕ) → degrees_to o D d i ≡ sum_to (λ j. deg o (walk.a o D d j)) i
  unfolding degrees_to sum_to
  degrees_sum zero = refl
  degrees_sum (suc i) = ap (λ (n : ℕ). n + deg o (walk.a o D d (suc i))) (degrees_sum i)

  P_tests : (i : ℕ) → MiddleP t i ↔ field.MiddleP (K named) (fraction z) i
  unfolding root_of
  P_tests i =
      let x : List ℕ = walk.P o D d (suc i) in
      let y : List ℕ = walk.P o D d (suc (suc i)) in
      (same_series t.field named x y, series_same t.field named x y)

  none_before : (i : ℕ) → NoMiddle (K named) (fraction z) i → NoneBefore t i
  unfolding root_of
  none_before i free j l = (λ e. free.no_Q j l (constant_associate named e), λ e. free.no_P j l ((P_tests j).0 e))

  half_ends : HalfEnds t (half_of t)
  unfolding half_of root_of middle_regulator middle_period degree_before
  half_ends = go (first_middle o D d b 0) (first_middle_searched z b)
    where
      go : (x : Option Middle) → Searched z b x → HalfEnds t (outcome_by x)
      go none free = record { all = none_before b free; steps = refl; reached = refl }
      go (some (by_q i)) (l, free, e) = record {
        i = i;
        tried = l;
        before = none_before i free;
        here = inl (associate_constant named e, refl, ap (λ (n : ℕ). 2 * n + deg o d) (degrees_sum i));
      }
      go (some (by_p i)) (l, free, not, e) = record {
        i = i;
        tried = l;
        before = none_before i free;
        here = inr (λ c. not (constant_associate named c), (P_tests i).1 e, refl, ap (λ (n : ℕ). 2 * n + deg o (walk.Q o D d (suc i))) (degrees_sum (suc i)));
      }

  -- ---- what it says of the quasi-period
  half_spends : NoQuasi o D d (2 * b) → half_of t ≡ half_spent b (degree_before o D d b)
  unfolding half_of root_of
  half_spends free = go (first_middle o D d b 0) (half_says z b)
    where
      go : (x : Option Middle) → HalfSays z b x → outcome_by x ≡ half_spent b (degree_before o D d b)
      go none _ = refl
      go (some y) told = absurd (let q = told.period in free (middle_period y) q.positive q.within q.constant)

  half_finds : (m : ℕ) → Quasi o D d (2 * b) m → half_of t ≡ half_found (degree_before o D d m) m
  unfolding half_of root_of
  half_finds m first = go (first_middle o D d b 0) (half_says z b)
    where
      go : (x : Option Middle) → HalfSays z b x → outcome_by x ≡ half_found (degree_before o D d m) m
      go none free = absurd (free m first.positive first.within first.constant)
      go (some y) told =
          let e : some (middle_period y) ≡ some m = sym (some_quasi z (2 * b) (middle_period y) told.period) ∙ some_quasi z (2 * b) m first in
          let i : middle_period y ≡ m = cc in
          ap (λ (n : ℕ). half_found n (middle_period y)) told.regulator ∙ ap (λ (n : ℕ). half_found (degree_before o D d n) n) i

  -- m is the quasi-period within some budget B
  module _ (B m : ℕ) (first : Quasi o D d B m) where
    finds_within : m ≤ 2 * b → half_of t ≡ half_found (degree_before o D d m) m
    finds_within l = half_finds m (record { positive = first.positive; within = l; constant = first.constant; least = first.least })

    spent_beyond : 2 * b < m → half_of t ≡ half_spent b (degree_before o D d b)
    spent_beyond l = half_spends (λ j p u. first.least j p (omega arith))

  -- ---- beside the full walk
  abbrev full_of : ℕ → Outcome
  full_of B = outcome_of (with_budget B t)

  abbrev full_by : ℕ → Option ℕ → Outcome
  full_by B x = elim x [ none ↦ spent B (degree_before o D d B) | some m ↦ found (degree_before o D d m) m (constant_of o D d m) ]

  as_twice : half_of t ≡ halved t (full_of (2 * b))
  unfolding outcome_of root_of degree_before
  as_twice = go (quasi_period o D d (2 * b)) (quasi_says z (2 * b))
    where
      go : (x : Option ℕ) → Says z (2 * b) x → half_of t ≡ halved t (full_by (2 * b) x)
      go none free = half_spends free
      go (some m) first = half_finds m first

  found_quasi : (B R m c : ℕ) → full_of B ≡ found R m c → Quasi o D d B m × (R ≡ degree_before o D d m)
  unfolding outcome_of root_of
  found_quasi B R m c = go (quasi_period o D d B) (quasi_says z B)
    where
      go : (x : Option ℕ) → Says z B x → full_by B x ≡ found R m c → Quasi o D d B m × (R ≡ degree_before o D d m)
      go none free e = absurd (full.spent_not_found _ _ _ _ _ e)
      go (some n) first e =
          let k = full.found_numbers e in
          (subst (Quasi o D d B) k.1 first, sym k.0 ∙ ap (degree_before o D d) k.1)

  same_as_full : SameAsFull t (half_of t)
  unfolding root_of degree_before
  same_as_full = record {
    twice = as_twice;
    finds = λ B R m c e l. let k = found_quasi B R m c e in finds_within B m k.0 l ∙ ap (λ (n : ℕ). half_found n m) (sym k.1);
    spends = λ B R m c e l. spent_beyond B m (found_quasi B R m c e).0 l;
  }

  -- ---- what is said, by the two cases
  abbrev Finds : ℕ → Said → Type 0
  Finds m says = says ≡ half_said (half_found (degree_at t m) m)

  abbrev Spends : Said → Type 0
  Spends says = says ≡ half_said (half_spent b (degree_at t b))

  by_cases : (m : ℕ) (says : Said) → (m ≤ 2 * b → Finds m says) → (2 * b < m → Spends says) → HalfFoundOrSpent t m says
  by_cases m says finds spends = record {
    within = (finds, λ f. ⊎_elim (λ l. l) (λ l. absurd (not_both f (spends l))) (le_or_lt m (2 * b)));
    beyond = (spends, λ s. ⊎_elim (λ l. absurd (not_both (finds l) s)) (λ l. l) (le_or_lt m (2 * b)));
    either = either;
    found_only = λ R k e. ⊎_elim (λ f. found_numbers (same e f)) (λ s. absurd (spent_not_found (same s e))) either;
    spent_only = λ k r e. ⊎_elim (λ f. absurd (spent_not_found (same e f))) (λ s. spent_numbers (same e s)) either;
    never_refused = λ j e. ⊎_elim (λ f. refused_not_found (same e f)) (λ s. refused_not_spent (same e s)) either;
  }
    where
      same : {x y : HalfOutcome} → says ≡ half_said x → says ≡ half_said y → x ≡ y
      same e f = half_said_injective _ _ (sym e ∙ f)

      not_both : Finds m says → Spends says → ⊥
      not_both f s = spent_not_found (same s f)

      either : Finds m says ⊎ Spends says
      either = ⊎_elim (λ l. inl (finds l)) (λ l. inr (spends l)) (le_or_lt m (2 * b))

  found_or_spent : (m : ℕ) → IsQuasiPeriod t m → HalfFoundOrSpent t m (half_said (half_of t))
  unfolding root_of degree_before
  found_or_spent m q = by_cases m _ (λ l. ap half_said (finds_within m m (quasi_of t h m q) l)) (λ l. ap half_said (spent_beyond m m (quasi_of t h m q) l))

  -- ---- what it says of every solution
  half_least : LeastHalfIn t.field D (root_of t) (half_of t)
  unfolding half_of root_of
  half_least = go (first_middle o D d b 0) (half_says z b)
    where
      go : (x : Option Middle) → HalfSays z b x → LeastHalfIn t.field D d (outcome_by x)
      go none free = λ p s u. (least_spent h b (λ j q l. free j q (omega arith)) p s u, least_spent h (2 * b) free p s u)
      go (some y) told = subst (λ (R : ℕ). LeastHalfIn t.field D d (half_found R (middle_period y))) (sym told.regulator) (least_found h (2 * b) (middle_period y) told.period)

  half_accepts : (j : ℕ) → half_of t ≢ half_refused j
  half_accepts j e = subst (HalfEnds t) e half_ends

-- ---- for any words
module _ (w : List ℕ) where
  pub past_half : refusal_of w ≡ 0 → words_half w ≡ half_of (ticket_of w)
  unfolding words_half
  past_half e = ap (λ (k : ℕ). elim k as (λ _. HalfOutcome) [ zero ↦ half_of (ticket_of w) | suc k ↦ half_refused (suc k) ]) e

  pub refused_half : (k : ℕ) → refusal_of w ≡ suc k → words_half w ≡ half_refused (suc k)
  unfolding words_half
  refused_half k e = ap (λ (k : ℕ). elim k as (λ _. HalfOutcome) [ zero ↦ half_of (ticket_of w) | suc k ↦ half_refused (suc k) ]) e

  refused_full : (k : ℕ) → refusal_of w ≡ suc k → words_outcome w ≡ refused (suc k)
  unfolding words_outcome
  refused_full k e = ap (λ (k : ℕ). elim k as (λ _. Outcome) [ zero ↦ outcome_of (ticket_of w) | suc k ↦ refused (suc k) ]) e

  -- it is refused where the full walk is
  half_full : (j : ℕ) → words_half w ≡ half_refused j → words_outcome w ≡ refused j
  half_full j e = go (refusal_of w) refl
    where
      go : (k : ℕ) → refusal_of w ≡ k → words_outcome w ≡ refused j
      go zero z = absurd (half_accepts (ticket_of w) (admitted w z) j (sym (past_half z) ∙ e))
      go (suc k) z = refused_full k z ∙ ap refused (refused_number (sym (refused_half k z) ∙ e))

  full_half : (j : ℕ) → words_outcome w ≡ refused j → words_half w ≡ half_refused j
  full_half j e = go (refusal_of w) refl
    where
      go : (k : ℕ) → refusal_of w ≡ k → words_half w ≡ half_refused j
      go zero z = absurd (subst (Walks (ticket_of w)) e (t2 w z)).ends
      go (suc k) z = refused_half k z ∙ ap half_refused (full.refused_number (sym (refused_full k z) ∙ e))

pub t1_half : T1Half
unfolding half_answer regulator_of
t1_half w k =
    let full = t1_answers.regulator w k in
    (λ e. full.0 (ap said (half_full w k (half_said_injective _ _ e))), λ f. ap half_said (full_half w k (said_injective _ _ (full.1 f))))

pub t2_half : T2Half
unfolding half_answer
t2_half w = record {
  ends = λ e. subst (HalfEnds (ticket_of w)) (sym (past_half w e)) (half_ends (ticket_of w) (admitted w e));
  same = λ e. subst (SameAsFull (ticket_of w)) (sym (past_half w e)) (same_as_full (ticket_of w) (admitted w e));
  walks = λ e. let (m, q) = t2_exists w e in (m, q, subst (λ (x : HalfOutcome). HalfFoundOrSpent (ticket_of w) m (half_said x)) (sym (past_half w e)) (found_or_spent (ticket_of w) (admitted w e) m q));
}

pub t3_half : T3Half
t3_half w = go (refusal_of w) refl
  where
    go : (k : ℕ) → refusal_of w ≡ k → LeastHalf w (words_half w)
    go zero e = subst (LeastHalf w) (sym (past_half w e)) (half_least (ticket_of w) (admitted w e))
    go (suc k) e = subst (LeastHalf w) (sym (refused_half w k e)) tt

pub t1_half_numbers : T1HalfNumbers
t1_half_numbers w x says = record { not_zero = λ e. let f = (first 0 e).0 in omega arith; not_eleven = λ e. let f = (first 11 e).1 in omega arith }
  where
    first : (k : ℕ) → x ≡ half_refused k → First k w
    first k e = (t1_half w k).0 (says ∙ ap half_said e)

pub half_only : HalfOnly
unfolding half_answer
half_only w x refuses walked = go (refusal_of w) refl
  where
    go : (k : ℕ) → refusal_of w ≡ k → x ≡ words_half w
    go zero e =
        let t : Ticket = ticket_of w in
        let (m, q, s) = walked e in
        let k = found_or_spent t (admitted w e) m q in
        half_said_injective _ _ (⊎_elim (λ l. s.within.0 l ∙ sym (k.within.0 l)) (λ l. s.beyond.0 l ∙ sym (k.beyond.0 l)) (le_or_lt m (2 * t.b))) ∙ sym (past_half w e)
    go (suc k) e = half_said_injective _ _ ((refuses (suc k)).1 ((t1_half w (suc k)).0 (ap half_said (refused_half w k e)))) ∙ sym (refused_half w k e)
