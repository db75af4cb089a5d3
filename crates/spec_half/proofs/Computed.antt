-- The proofs of specs/Computed.
use Prim.Native.Nat.{ℕ, zero, suc, ◌+◌, ◌*◌, ◌-◌, ◌<◌}
use Rattle.std.proofs.Common.{add-zero, zero-add, suc-add, add-suc, arith, ◌∙◌}
use Rattle.std.specs.Prelude.{◌≡◌, false, List, [], ◌∷◌}
use Rattle.std.proofs.Math.Path.{refl, sym, ap}
use Rattle.std.proofs.Math.Bool.{true}
use Rattle.std.proofs.Math.Option.{none, some}
use Rattle.std.proofs.Math.ListN.{length}
use Rattle.math_ring.specs.Ring.{CRing}
use Rattle.math_ring.specs.Identity.{ring_from, times, plus, quote}
use Rattle.math_ring.specs.Series.{Series, con}
use Rattle.math_algebra.specs.Field.{Field}
use Rattle.math_algebra.specs.Polynomial.{F, Px, con_mul}
use Rattle.math_algebra.specs.Associate.{Associate, associate_sym, associate_trans, associate_path}
use Rattle.math_surd.specs.Walk.{P_rem}
use Rattle.math_surd.proofs.Distance.{distance_height}
use Rattle.spec_arithmetic.specs.Field.{FieldName, Ops, ops}
use Rattle.spec_arithmetic.specs.Polynomials.{deg, sub, scale, lead, monic, root}
use Rattle.spec_definitions.specs.Ticket.{genus, ticket}
use Rattle.spec_definitions.specs.Walk.{Q, P, degree_before}
use Rattle.spec_definitions.specs.Answers.{root_of}
use Rattle.spec_bridge.specs.Model.{Model, series}
use Rattle.spec_bridge.specs.Trim.{series_ext}
use Rattle.spec_bridge.specs.Arithmetic.{series_scale, trim_scale, oks_scale}
use Rattle.spec_bridge.specs.Monic.{series_monic}
use Rattle.spec_laws.specs.Surd.{Surd, r_trim, r_oks}
use Rattle.spec_laws.specs.Surd as surd
use Rattle.spec_laws.specs.Fraction.{fraction, Q_some, Q_length}
use Rattle.spec_laws.specs.Walk.{d_length, deg_d, deg_Q, r_length}
use Rattle.spec_laws.specs.State.{left, P_left}
use Rattle.spec_laws.specs.Convergents.{degree_distance}
use Rattle.spec_laws.specs.Admitted.{Admitted, surd_of}
use Rattle.spec_sentences.specs.Tests.{Tests}
use Rattle.spec_sentences.proofs.Tests.{tests_none}
use Rattle.spec_half.specs.Half.{Middle, by_q, by_p, middle_q?, middle_p?, middle_period, middle_regulator, first_middle, half_found, half_spent, half_of}
use Rattle.spec_half.proofs.Middles.{tests_equal, lead_not_zero, tests_Q, tests_P}
use Rattle.spec_half.proofs.Duplication.{degrees_height}
use Rattle.spec_half.specs.Computed.{Cross, NoTestHolds}

-- ---- the tests over any field
module _ {A B : Type 0} {o : Ops A} {K : Field B} {M : Model o (F K)} {g : ℕ} {D d : List A} (s : Surd K M g D d) where
  open Series (F K) use {mul as ◌⊗◌, neg as -◌, one as 𝟙}

  infixl 7 ◌⊗◌
  infix 8 -◌
  abbrev R[x] : CRing (Px K)
  R[x] = Series (F K)

  tests_remainders : (i : ℕ) → Tests (middle_p? o D d i) (left o D d (suc i) ≡ left o D d (suc (suc i)))
  unfolding left
  tests_remainders i = (λ e. series_ext M _ _ (r_trim s i) (r_trim s (suc i)) (r_oks s i) (r_oks s (suc i)) (same e), λ e. (tests_P s i).1 (ap (series M) (equal e)))
    where
      same : middle_p? o D d i ≡ true → series M (surd.r s i) ≡ series M (surd.r s (suc i))
      same e = ring_from R[x] (series M (surd.r s i) ∷ series M (surd.r s (suc i)) ∷ series M d ∷ (fraction s).P (suc i) ∷ (fraction s).P (suc (suc i)) ∷ [])
          (plus R[x] (times R[x] 𝟙 (P_rem K (fraction s) i)) (plus R[x] (times R[x] (- 𝟙) (P_rem K (fraction s) (suc i))) (times R[x] (- 𝟙) ((tests_P s i).0 e))))
          (search quote depth 40 fits 9999) tt

      equal : left o D d (suc i) ≡ left o D d (suc (suc i)) → P o D d (suc i) ≡ P o D d (suc (suc i))
      equal e = P_left s (suc i) ∙ ap (sub o d) e ∙ sym (P_left s (suc (suc i)))

  -- the leading coefficient of Q_i, and its inverse
  abbrev top : ℕ → Px K
  top i = con (F K) (M.φ (lead o (Q o D d i)))

  abbrev inverse : ℕ → Px K
  inverse i = con (F K) (M.φ (o.inv (lead o (Q o D d i))))

  lead_inverse : (i : ℕ) → inverse i ⊗ top i ≡ 𝟙
  lead_inverse i = con_mul K _ _ ∙ ap (con (F K)) (s.inverts.inv_mul (lead o (Q o D d i)) (lead_not_zero s i))

  scale_ratio : (i j : ℕ) → Associate K (series M (scale o (lead o (Q o D d i)) (Q o D d j))) (series M (Q o D d j))
  scale_ratio i j = record { factor = M.φ (lead o (Q o D d i)); some = lead_not_zero s i; is = series_scale M (lead o (Q o D d i)) (Q o D d j) }

  tests_cross : (i : ℕ) → Tests (middle_q? o D d i) (scale o (lead o (Q o D d i)) (Q o D d (suc i)) ≡ scale o (lead o (Q o D d (suc i))) (Q o D d i))
  unfolding middle_q?
  tests_cross i = (cross, ratio)
    where
      same : series M (monic o (Q o D d (suc i))) ≡ series M (monic o (Q o D d i)) → top i ⊗ series M (Q o D d (suc i)) ≡ top (suc i) ⊗ series M (Q o D d i)
      same e =
          let scaled = sym (series_monic M s.inverts (Q o D d (suc i))) ∙ e ∙ series_monic M s.inverts (Q o D d i) in
          ring_from R[x] (top i ∷ top (suc i) ∷ inverse i ∷ inverse (suc i) ∷ series M (Q o D d i) ∷ series M (Q o D d (suc i)) ∷ [])
          (plus R[x] (times R[x] (top i ⊗ top (suc i)) scaled) (plus R[x] (times R[x] (- (top i ⊗ series M (Q o D d (suc i)))) (lead_inverse (suc i))) (times R[x] (top (suc i) ⊗ series M (Q o D d i)) (lead_inverse i))))
          (search quote depth 40 fits 9999) tt

      cross : middle_q? o D d i ≡ true → scale o (lead o (Q o D d i)) (Q o D d (suc i)) ≡ scale o (lead o (Q o D d (suc i))) (Q o D d i)
      cross e =
          let equal = series_scale M _ _ ∙ same ((tests_equal s _ _).0 e) ∙ sym (series_scale M _ _) in
          series_ext M _ _ (trim_scale M _ _) (trim_scale M _ _) (oks_scale M _ _) (oks_scale M _ _) equal

      ratio : scale o (lead o (Q o D d i)) (Q o D d (suc i)) ≡ scale o (lead o (Q o D d (suc i))) (Q o D d i) → middle_q? o D d i ≡ true
      ratio e =
          let equal = associate_path K (ap (series M) e) in
          (tests_Q s i).1 (associate_trans K (associate_sym K (scale_ratio i (suc i))) (associate_trans K equal (scale_ratio (suc i) i)))

  -- ---- the regulator from deg p_i
  regulator_by_Q : (i R : ℕ) → R + suc g ≡ 2 * degree_before o D d (suc i) → middle_regulator o D d (by_q i) ≡ R
  unfolding middle_regulator
  regulator_by_Q i R h = omega (arith, degrees_height s i, deg_d s, degree_distance s (suc i), distance_height K (fraction s) i)

  regulator_by_P : (i R : ℕ) → R + deg o (Q o D d (suc i)) ≡ 2 * degree_before o D d (suc i) → middle_regulator o D d (by_p i) ≡ R
  unfolding middle_regulator
  regulator_by_P i R h =
      let a = degrees_height s (suc i) in
      let b = degree_distance s (suc i) in
      omega (arith, deg_Q s (suc i), distance_height K (fraction s) i, Q_length s (suc i), Q_some s (suc i))

-- ---- the search, where its tests are known
module _ {A : Type 0} (o : Ops A) (D d : List A) where
  search_Q : (k i : ℕ) → middle_q? o D d i ≡ true → first_middle o D d (suc k) i ≡ some (by_q i)
  unfolding first_middle
  search_Q k i t = rw (t, first_middle) refl

  search_P : (k i : ℕ) → middle_q? o D d i ≡ false → middle_p? o D d i ≡ true → first_middle o D d (suc k) i ≡ some (by_p i)
  unfolding first_middle
  search_P k i t u = rw (t, u, first_middle) refl

  search_on : (k i : ℕ) → middle_q? o D d i ≡ false → middle_p? o D d i ≡ false → first_middle o D d (suc k) i ≡ first_middle o D d k (suc i)
  unfolding first_middle
  search_on k i t u = rw (t, u, first_middle) refl

  -- on to i, where no test holds before i
  search_past : (k i : ℕ) → ((j : ℕ) → j < i → (middle_q? o D d j ≡ false) × (middle_p? o D d j ≡ false)) → first_middle o D d (i + k) 0 ≡ first_middle o D d k i
  search_past k zero m = ap (λ (n : ℕ). first_middle o D d n 0) (zero-add k)
  search_past k (suc i) m =
      let h = m i (omega arith) in
      ap (λ (n : ℕ). first_middle o D d n 0) (suc-add i k ∙ sym (add-suc i k)) ∙ search_past (suc k) i (λ j l. m j (omega arith)) ∙ search_on k i h.0 h.1

module _ {f : FieldName} {g : ℕ} {D : List ℕ} (h : Admitted f g D) where
  abbrev d : List ℕ
  d = root (ops f) D (suc g)

  -- ---- the test of P, from the remainders
  pub remainders_P : (i : ℕ) → left (ops f) D d (suc i) ≡ left (ops f) D d (suc (suc i)) → middle_p? (ops f) D d i ≡ true
  remainders_P i = (tests_remainders (surd_of h) i).1

  pub not_remainders_P : (i : ℕ) → (left (ops f) D d (suc i) ≡ left (ops f) D d (suc (suc i)) → ⊥) → middle_p? (ops f) D d i ≡ false
  not_remainders_P i = tests_none (tests_remainders (surd_of h) i)

  -- the remainders of the indices 0 and 1 differ, as P_0 = 0 and P_1 = d
  pub first_remainders : left (ops f) D d 0 ≡ left (ops f) D d 1 → ⊥
  unfolding left
  first_remainders e = omega (arith, ap length e, d_length (surd_of h), r_length (surd_of h) 0, Q_length (surd_of h) 0)

  -- ---- the test of Q, by cross multiplication
  pub cross_Q : (i : ℕ) → Cross f (Q (ops f) D d i) (Q (ops f) D d (suc i)) → middle_q? (ops f) D d i ≡ true
  cross_Q i = (tests_cross (surd_of h) i).1

  pub not_cross_Q : (i : ℕ) → (Cross f (Q (ops f) D d i) (Q (ops f) D d (suc i)) → ⊥) → middle_q? (ops f) D d i ≡ false
  not_cross_Q i = tests_none (tests_cross (surd_of h) i)

-- ---- the outcome of a ticket of budget b: R + (g + 1) = 2·deg p_i where the test of Q holds first at i, R +
-- deg Q_{i+1} = 2·deg p_i where that of P does
module _ {f : FieldName} (n : ℕ) {D : List ℕ} (h : Admitted f (genus n) D) (b : ℕ) where
  abbrev computed_root : List ℕ
  computed_root = root (ops f) D (suc (genus n))

  found_by : (x : Middle) (R : ℕ) → first_middle (ops f) D computed_root b 0 ≡ some x → middle_regulator (ops f) D computed_root x ≡ R → half_of (ticket f n D b) ≡ half_found R (middle_period x)
  unfolding half_of root_of
  found_by x R k r = rw (k, half_of) (ap (λ (j : ℕ). half_found j (middle_period x)) r)

  -- the search comes to i with the b − i indices from i up
  search_to : (i k : ℕ) → i + k ≡ b → NoTestHolds f (genus n) D i → first_middle (ops f) D computed_root b 0 ≡ first_middle (ops f) D computed_root k i
  search_to i k r m = ap (λ (j : ℕ). first_middle (ops f) D computed_root j 0) (sym r) ∙ search_past (ops f) D computed_root k i (λ j l. (m.no_Q j l, m.no_P j l))

  pub half_by_Q : (i R : ℕ) → i < b → NoTestHolds f (genus n) D i → middle_q? (ops f) D computed_root i ≡ true → R + suc (genus n) ≡ 2 * degree_before (ops f) D computed_root (suc i) → half_of (ticket f n D b) ≡ half_found R (2 * i + 1)
  unfolding middle_period
  half_by_Q i R l m t r = found_by (by_q i) R (search_to i (suc (b - suc i)) (omega arith) m ∙ search_Q (ops f) D computed_root (b - suc i) i t) (regulator_by_Q (surd_of h) i R r)

  pub half_by_P : (i R : ℕ) → i < b → NoTestHolds f (genus n) D i → middle_q? (ops f) D computed_root i ≡ false → middle_p? (ops f) D computed_root i ≡ true → R + deg (ops f) (Q (ops f) D computed_root (suc i)) ≡ 2 * degree_before (ops f) D computed_root (suc i) → half_of (ticket f n D b) ≡ half_found R (2 * i + 2)
  unfolding middle_period
  half_by_P i R l m t u r = found_by (by_p i) R (search_to i (suc (b - suc i)) (omega arith) m ∙ search_P (ops f) D computed_root (b - suc i) i t u) (regulator_by_P (surd_of h) i R r)

  pub half_none : NoTestHolds f (genus n) D b → half_of (ticket f n D b) ≡ half_spent b (degree_before (ops f) D computed_root b)
  unfolding half_of root_of first_middle
  half_none m = let k : first_middle (ops f) D computed_root b 0 ≡ none = search_to b 0 (add-zero b) m in rw (k, half_of) refl
