-- The equations of the walk and of its convergents as equations of lists, for every index: products of
-- neighbours, norms, the determinant, and the norm at the quasi-period.
use Rattle.std.specs.Prelude.{ℕ, suc, ◌-◌ as ◌-ₙ◌, ◌%◌, ◌≡◌, Bool, eqb, length}
use Rattle.std.proofs.Common.{arith, ap, ◌∙◌, subst}
use Rattle.std.proofs.Math.Path.{refl, sym, ap₂}
use Rattle.std.proofs.Math.Bool.{true, false}
use mathlib.Core.List.{List, [], ◌∷◌}
use Rattle.math_ring.specs.Ring.{CRing}
use Rattle.math_ring.specs.Identity.{ring_from, times, quote}
use Rattle.math_ring.specs.Series.{Series}
use Rattle.math_algebra.specs.Field.{Field}
use Rattle.math_algebra.specs.Polynomial.{F, Px, Deg, deg_path}
use Rattle.math_surd.specs.Walk.{norm}
use Rattle.math_surd.proofs.Walk.{P_sum}
use Rattle.math_surd.specs.Convergents.{sign}
use Rattle.math_surd.proofs.Convergents.{sign_deg, norm_convergent, determinant}
use Rattle.math_surd.specs.Convergents as convergents
use Rattle.spec_arithmetic.specs.Field.{Ops}
use Rattle.spec_arithmetic.specs.Polynomials.{at, add, sub, mul}
use Rattle.spec_definitions.specs.Walk.{p_before, s_before, signed_q}
use Rattle.spec_definitions.specs.Walk as lists
use Rattle.spec_bridge.specs.Model.{Model, series}
use Rattle.spec_bridge.specs.Trim.{series_ext}
use Rattle.spec_bridge.specs.Arithmetic.{at_sub, oks_sub, oks_mul, oks_add, trim_sub, trim_mul, trim_add, series_sub, series_mul, series_add}
use Rattle.spec_laws.specs.Signs.{signed, norm_of, series_signed, trim_signed, oks_signed, series_norm}
use Rattle.spec_laws.specs.Surd.{Surd, deg_length, series_one, trim_one, oks_one, Q_trim, Q_oks}
use Rattle.spec_laws.specs.Fraction.{fraction, Q_deg}
use Rattle.spec_laws.specs.Convergents.{p_series, s_series}

module _ {A B : Type 0} {o : Ops A} {K : Field B} {M : Model o (F K)} {g : ℕ} {D d : List A} (h : Surd K M g D d) where
  open Series (F K) use {add as ◌+◌, mul as ◌*◌, neg as -◌, one as 𝟙}

  infixl 6 ◌+◌ ◌-◌
  infixl 7 ◌*◌
  infix 8 -◌
  abbrev ◌-◌ : Px K → Px K → Px K
  a - b = a + (- b)

  abbrev R[x] : CRing (Px K)
  R[x] = Series (F K)

  abbrev Q : ℕ → List A
  Q = lists.Q o D d

  abbrev P : ℕ → List A
  P = lists.P o D d

  abbrev a : ℕ → List A
  a = lists.a o D d

  abbrev p : ℕ → List A
  p = p_before o D d

  abbrev s : ℕ → List A
  s = s_before o D d

  -- ---- Q_i-as-Q_{i+1} = D − P_{i+1}², and P_{i+1} + P_i = a_i·Q_i
  pub Q_product : (i : ℕ) → mul o (Q i) (Q (suc i)) ≡ sub o D (mul o (P (suc i)) (P (suc i)))
  Q_product i = series_ext M _ _ (trim_mul M _ _) (trim_sub M _ _) (oks_mul M _ _) (oks_sub M _ _) (series_mul M (Q i) (Q (suc i)) ∙ same ∙ sym (series_sub M D _ ∙ ap (λ (f : Px K). series M D - f) (series_mul M (P (suc i)) (P (suc i)))))
    where
      same : series M (Q i) * series M (Q (suc i)) ≡ series M D - series M (P (suc i)) * series M (P (suc i))
      same = ring_from R[x] (series M (Q i) ∷ series M (Q (suc i)) ∷ series M D ∷ series M (P (suc i)) ∷ []) (times R[x] (- 𝟙) (norm K (fraction h) (suc i))) (search quote depth 40 fits 9999) tt

  pub P_product : (i : ℕ) → add o (P (suc i)) (P i) ≡ mul o (a i) (Q i)
  P_product i = series_ext M _ _ (trim_add M _ _) (trim_mul M _ _) (oks_add M _ _) (oks_mul M _ _) (series_add M (P (suc i)) (P i) ∙ R[x].add_comm _ _ ∙ P_sum K (fraction h) i ∙ sym (series_mul M (a i) (Q i)))

  -- ---- p_{i−1}² − D·s_{i−1}² = (−1)^i·Q_i
  pub norm_is : (i : ℕ) → norm_of o D (p i) (s i) ≡ signed o i (Q i)
  unfolding norm_of
  norm_is i = series_ext M _ _ (trim_sub M _ _) (trim_signed K M i (Q i) (Q_trim h i)) (oks_sub M _ _) (oks_signed K M i (Q i) (Q_oks h i)) (series_norm K M D (p i) (s i) ∙ ap₂ (λ (x y : Px K). x * x - series M D * (y * y)) (p_series h i) (s_series h i) ∙ norm_convergent K (fraction h) i ∙ sym (series_signed K M i (Q i)))

  -- ---- p_i·s_{i−1} − p_{i−1}·s_i = (−1)^{i+1}
  pub determinant_is : (i : ℕ) → sub o (mul o (p (suc i)) (s i)) (mul o (p i) (s (suc i))) ≡ signed o (suc i) (o.one ∷ [])
  determinant_is i = series_ext M _ _ (trim_sub M _ _) (trim_signed K M (suc i) _ (trim_one K M)) (oks_sub M _ _) (oks_signed K M (suc i) _ (oks_one K M)) (series_sub M _ _ ∙ ap₂ ◌-◌ (series_mul M (p (suc i)) (s i)) (series_mul M (p i) (s (suc i))) ∙ same ∙ sym (series_signed K M (suc i) _))
    where
      same : series M (p (suc i)) * series M (s i) - series M (p i) * series M (s (suc i)) ≡ sign K (suc i) * series M (o.one ∷ [])
      same =
          ap₂ ◌-◌ (ap₂ ◌*◌ (p_series h (suc i)) (s_series h i)) (ap₂ ◌*◌ (p_series h i) (s_series h (suc i)))
          ∙ ap (λ (f : Px K). convergents.p K (fraction h) (suc (suc i)) * convergents.s K (fraction h) (suc i) - f) (R[x].mul_comm _ _)
          ∙ determinant K (fraction h) (suc i)
          ∙ sym (ap (λ (f : Px K). sign K (suc i) * f) (series_one K M) ∙ R[x].mul_one _)

  -- ---- (−1)^m·Q_m, where it is constant
  singleton : (l : List A) → length l ≡ 1 → l ≡ at o l 0 ∷ []
  singleton [] e = absurd (omega arith)
  singleton (x ∷ []) e = refl
  singleton (x ∷ (y ∷ l)) e = absurd (omega arith)

  signed_q_at : (m : ℕ) → at o (signed o m (Q m)) 0 ≡ signed_q o D d m
  unfolding signed signed_q
  signed_q_at m = go (eqb (m % 2) 0)
    where
      go : (t : Bool) → at o (elim t [ true ↦ Q m | false ↦ sub o [] (Q m) ]) 0 ≡ (elim t [ true ↦ at o (Q m) 0 | false ↦ o.sub o.zer (at o (Q m) 0) ])
      go true = refl
      go false = at_sub M [] (Q m) 0

  pub signed_q_ok : (m : ℕ) → M.Ok (signed_q o D d m)
  signed_q_ok m = subst M.Ok (signed_q_at m) (oks_signed K M m (Q m) (Q_oks h m) 0)

  module _ (m : ℕ) (constant : length (Q m) ≡ 1) where
    norm_deg : Deg K (series M (signed o m (Q m))) 0
    norm_deg = deg_path K 0 (sym (series_signed K M m (Q m))) (sign_deg K m (series M (Q m)) 0 (subst (Deg K (series M (Q m))) (let e : length (Q m) -ₙ 1 ≡ 0 = omega arith in e) (Q_deg h m)))

    pub signed_q_is : signed o m (Q m) ≡ signed_q o D d m ∷ []
    signed_q_is = singleton _ (deg_length K M _ 0 (trim_signed K M m (Q m) (Q_trim h m)) norm_deg) ∙ ap (λ (c : A). c ∷ []) (signed_q_at m)

    -- it is not 0
    pub signed_q_some : M.φ (signed_q o D d m) ≡ (F K).zer → ⊥
    signed_q_some e = norm_deg.top (ap (λ (l : List A). series M l 0) signed_q_is ∙ e)

    -- the norm of (p_{m−1}, s_{m−1})
    pub convergent_norm : norm_of o D (p m) (s m) ≡ signed_q o D d m ∷ []
    convergent_norm = norm_is m ∙ signed_q_is
