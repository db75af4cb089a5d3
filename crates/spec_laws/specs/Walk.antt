-- The walk as equations of lists: the remainder r_i of P_i + d by Q_i gives the next P, and the quotient a_i
-- the next Q with one product. How long each list is. Each equation is one of the continued fraction, and
-- lists with no zero at the end are equal where their polynomials are.
use Rattle.std.specs.Prelude.{ℕ, zero, suc, ◌+◌ as ◌+ₙ◌, ◌-◌ as ◌-ₙ◌, ◌≤◌, ◌<◌, ◌≡◌, refl, List, [], ◌∷◌, length}
use Rattle.std.proofs.Common.{arith, sym, ap, ◌∙◌, subst}
use Rattle.math_ring.specs.Ring.{CRing}
use Rattle.math_ring.specs.Identity.{ring_from, times, quote}
use Rattle.math_ring.specs.Series.{Series}
use Rattle.math_algebra.specs.Field.{Field}
use Rattle.math_algebra.specs.Polynomial.{F, Px, monic_deg}
use Rattle.math_surd.specs.Walk.{P_rem, P_monic, a_deg}
use Rattle.math_surd.proofs.Walk.{Q_rem}
use Rattle.math_surd.proofs.Walk as states
use Rattle.spec_arithmetic.specs.Field.{Ops}
use Rattle.spec_arithmetic.specs.Polynomials.{trim, deg, add, sub, mul}
use Rattle.spec_definitions.specs.Walk as lists
use Rattle.spec_bridge.specs.Model.{Model, series}
use Rattle.spec_bridge.specs.Trim.{series_ext}
use Rattle.spec_bridge.specs.Arithmetic.{oks_sub, oks_add, trim_sub, trim_add, series_add, series_sub, series_mul}
use Rattle.spec_bridge.specs.Degree.{deg_is}
use Rattle.spec_bridge.specs.Division.{rem_less}
use Rattle.spec_laws.specs.Surd.{Surd, deg_length, Q_zero, P_zero, Q_trim, P_trim, a_trim, Q_oks}
use Rattle.spec_laws.specs.Surd as surd
use Rattle.spec_laws.specs.Fraction.{fraction, Q_some, Q_length}

module _ {A B : Type 0} {o : Ops A} {K : Field B} {M : Model o (F K)} {g : ℕ} {D d : List A} (s : Surd K M g D d) where
  open Series (F K) use {add as ◌+◌, mul as ◌*◌, neg as -◌, one as 𝟙}

  infixl 6 ◌+◌ ◌-◌
  infixl 7 ◌*◌
  infix 8 -◌
  abbrev ◌-◌ : Px K → Px K → Px K
  a - b = a + (- b)

  abbrev R[x] : CRing (Px K)
  R[x] = Series (F K)

  abbrev Q : ℕ → List A
  Q = lists.Q o D d

  abbrev P : ℕ → List A
  P = lists.P o D d

  abbrev a : ℕ → List A
  a = lists.a o D d

  abbrev r : ℕ → List A
  r = surd.r s

  -- ---- lengths
  pub d_length : length d ≡ suc (suc g)
  d_length = deg_length K M d (suc g) s.trimmed (monic_deg K s.is_root.monic)

  pub P_suc_length : (i : ℕ) → length (P (suc i)) ≡ suc (suc g)
  P_suc_length i = deg_length K M (P (suc i)) (suc g) (P_trim s (suc i)) (monic_deg K (P_monic K (fraction s) i))

  pub P_length : (i : ℕ) → length (P i) ≤ suc (suc g)
  P_length zero = subst (λ (l : List A). length l ≤ suc (suc g)) (sym (P_zero s)) (omega arith)
  P_length (suc i) = let e = P_suc_length i in omega arith

  pub a_length : (i : ℕ) → length (a i) ≡ suc (suc (suc g)) -ₙ length (Q i)
  a_length i =
      let e = deg_length K M (a i) _ (a_trim s i) (a_deg K (fraction s) i) in
      let h = Q_some s i in
      let k = Q_length s i in
      omega arith

  -- ---- degrees
  pub deg_d : deg o d ≡ suc g
  deg_d = deg_is K M d ∙ (let t = ap length s.trimmed in let e = d_length in omega arith)

  pub deg_Q : (i : ℕ) → suc (deg o (Q i)) ≡ length (Q i)
  deg_Q i = let e = deg_is K M (Q i) in let t = ap length (Q_trim s i) in let k = Q_some s i in omega arith

  -- deg a_i = g + 1 − deg Q_i
  pub deg_a : (i : ℕ) → deg o (a i) +ₙ length (Q i) ≡ suc (suc g)
  deg_a i = let e = deg_is K M (a i) in let t = ap length (a_trim s i) in let u = a_length i in let v = Q_length s i in omega arith

  pub r_length : (i : ℕ) → length (r i) < length (Q i)
  r_length i =
      let h : length (trim o (Q i)) ≡ length (Q i) = ap length (Q_trim s i) in
      let k = Q_some s i in
      let l = rem_less M s.inverts (add o (P i) d) (Q i) (omega arith) in
      omega arith

  -- ---- the next P from the remainder
  -- what is divided at the next step
  pub sum_next : (i : ℕ) → add o (P (suc i)) d ≡ sub o (add o d d) (r i)
  sum_next i = series_ext M _ _ (trim_add M (P (suc i)) d) (trim_sub M (add o d d) (r i)) (oks_add M (P (suc i)) d) (oks_sub M (add o d d) (r i)) (series_add M (P (suc i)) d ∙ same ∙ sym (series_sub M (add o d d) (r i) ∙ ap (λ (f : Px K). f - series M (r i)) (series_add M d d)))
    where
      same : series M (P (suc i)) + series M d ≡ (series M d + series M d) - series M (r i)
      same = ring_from R[x] (series M (P (suc i)) ∷ series M d ∷ series M (r i) ∷ []) (times R[x] 𝟙 (P_rem K (fraction s) i)) (search quote depth 40 fits 9999) tt

  -- ---- the first pair
  pub r_zero : r 0 ≡ []
  r_zero = empty (r 0) (let h = r_length 0 in let e : length (Q 0) ≡ 1 = ap length (Q_zero s) in omega arith)
    where
      empty : (l : List A) → length l < 1 → l ≡ []
      empty [] h = refl
      empty (x ∷ l) h = absurd (omega arith)

  pub Q_one : Q 1 ≡ sub o D (mul o d d)
  Q_one = series_ext M _ _ (Q_trim s 1) (trim_sub M D (mul o d d)) (Q_oks s 1) (oks_sub M D (mul o d d)) (states.Q_one K (fraction s) ∙ sym (series_sub M D (mul o d d) ∙ ap (λ (f : Px K). series M D - f) (series_mul M d d)))

  -- ---- the next Q but one, by one product
  pub Q_next : (i : ℕ) → Q (suc (suc i)) ≡ add o (Q i) (mul o (a (suc i)) (sub o (r (suc i)) (r i)))
  Q_next i = series_ext M _ _ (Q_trim s (suc (suc i))) (trim_add M _ _) (Q_oks s (suc (suc i))) (oks_add M _ _) (Q_rem K (fraction s) i ∙ sym spread)
    where
      spread : series M (add o (Q i) (mul o (a (suc i)) (sub o (r (suc i)) (r i)))) ≡ series M (Q i) + series M (a (suc i)) * (series M (r (suc i)) - series M (r i))
      spread = series_add M (Q i) _ ∙ ap (λ (f : Px K). series M (Q i) + f) (series_mul M (a (suc i)) _ ∙ ap (λ (f : Px K). series M (a (suc i)) * f) (series_sub M (r (suc i)) (r i)))
