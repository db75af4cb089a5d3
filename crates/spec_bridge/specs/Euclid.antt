-- Division and greatest common divisor of lists are the field's: the definitions take the steps of Euclid's
-- recursion, so that Bezout's identity and divisibility carry over.
use Rattle.std.specs.Prelude.{ℕ, zero, suc, ◌-◌ as ◌-ₙ◌, ◌≤◌, ◌<◌, ◌≡◌, List, [], ◌∷◌, length}
use Rattle.std.proofs.Common.{arith, sym, ap, ◌∙◌, subst, ⊎_elim}
use Rattle.math_ring.specs.Identity.{ring, ring_from, times, plus, quote}
use Rattle.math_ring.specs.Order.{le_or_lt}
use Rattle.math_ring.specs.Series.{Series, conv, zer_s, con}
use Rattle.math_algebra.specs.Field.{Field}
use Rattle.math_algebra.specs.Polynomial.{F}
use Rattle.math_algebra.specs.Divides.{Divides}
use Rattle.math_algebra.specs.Gcd.{IsGcd, gcd_base_zero, gcd_base, gcd_step}
use Rattle.spec_arithmetic.specs.Field.{Ops}
use Rattle.spec_arithmetic.specs.Polynomials.{trim, lead, quo, rem, monic, gcd}
use Rattle.spec_bridge.specs.Model.{Model, Inverts, series}
use Rattle.spec_bridge.specs.Trim.{below_length, trim_nil, lead_is, lead_some}
use Rattle.spec_bridge.specs.Division.{series_quo_rem, rem_less, rem_by_zero, trim_rem}
use Rattle.spec_bridge.specs.Quotient.{quo_exact}
use Rattle.spec_bridge.specs.Monic.{series_monic}
use Rattle.spec_bridge.specs.Gcd.{gcd_zero, gcd_rule}
use Rattle.spec_bridge.specs.Degree.{series_deg, series_zero, zero_size}

module _ {A B : Type 0} {o : Ops A} (K : Field B) (M : Model o K.scalars) (I : Inverts M) where
  open M use {φ}

  -- the field's inverse
  pub φ_inv : (a : A) → (φ a ≡ (F K).zer → ⊥) → φ (o.inv a) ≡ K.inv (φ a)
  φ_inv a h = ring_from (F K) (φ a ∷ φ (o.inv a) ∷ K.inv (φ a) ∷ []) (plus (F K) (times (F K) (K.inv (φ a)) (I.inv_mul a h)) (times (F K) ((F K).neg (φ (o.inv a))) (K.inv_mul (φ a) h))) (search quote depth 40 fits 9999) tt

  -- ---- divisibility: the remainder is 0
  pub divides_rem_none : (a b : List A) → Divides K (series M b) (series M a) → rem o a b ≡ []
  divides_rem_none a b d = ⊎_elim some none (le_or_lt 1 (length (trim o b)))
    where
      some : 1 ≤ length (trim o b) → rem o a b ≡ []
      some h = (quo_exact M I a b d.by d.size h d.low (d.is ∙ (Series (F K)).mul_comm (series M b) d.by)).1

      none : length (trim o b) < 1 → rem o a b ≡ []
      none h = sym (trim_rem M a b) ∙ zero_size K M (rem o a b) (rem_by_zero M a b (trim_nil M b (omega arith)) ∙ d.is ∙ ap (λ f. conv (F K) f d.by) (series_zero K M b (omega arith)) ∙ ring (Series (F K)) (d.by ∷ []) (search quote depth 40 fits 9999) tt)

  -- ---- the greatest common divisor
  abbrev IsGcdOf : List A → List A → Type 0
  IsGcdOf a b = IsGcd K (series M a) (series M b) (series M (gcd o a b))

  monic_is : (a : List A) → IsGcd K (series M a) (zer_s (F K)) (series M (monic o a))
  monic_is a = ⊎_elim some none (le_or_lt 1 (length (trim o a)))
    where
      some : 1 ≤ length (trim o a) → IsGcd K (series M a) (zer_s (F K)) (series M (monic o a))
      some h = subst (IsGcd K (series M a) (zer_s (F K))) (ap (λ c. conv (F K) (con (F K) c) (series M a)) (sym (φ_inv (lead o a) (lead_some M a h) ∙ ap (λ x. K.inv (φ x)) (lead_is M a))) ∙ sym (series_monic M I a)) (gcd_base K (series M a) (length (trim o a) -ₙ 1) (series_deg K M a h))

      none : length (trim o a) < 1 → IsGcd K (series M a) (zer_s (F K)) (series M (monic o a))
      none h = subst (λ f. IsGcd K f (zer_s (F K)) (series M (monic o a))) (sym zero_a) (subst (IsGcd K (zer_s (F K)) (zer_s (F K))) (sym zero_monic) (gcd_base_zero K))
        where
          zero_a : series M a ≡ zer_s (F K)
          zero_a = series_zero K M a (omega arith)

          zero_monic : series M (monic o a) ≡ zer_s (F K)
          zero_monic = series_monic M I a ∙ ap (conv (F K) (con (F K) (φ (o.inv (lead o a))))) zero_a ∙ ring (Series (F K)) (con (F K) (φ (o.inv (lead o a))) ∷ []) (search quote depth 40 fits 9999) tt

  -- n bounds the size of b
  gcd_turns : (n : ℕ) (a b : List A) → length (trim o b) < n → IsGcdOf a b
  gcd_turns zero a b h = absurd (omega arith)
  gcd_turns (suc n) a b h = ⊎_elim (λ k. some k (λ less. gcd_turns n b (rem o a b) less)) none (le_or_lt 1 (length (trim o b)))
    where
      some : 1 ≤ length (trim o b) → (length (trim o (rem o a b)) < n → IsGcdOf b (rem o a b)) → IsGcdOf a b
      some k ih =
          let short : length (rem o a b) < length (trim o b) = rem_less M I a b k in
          let same : length (trim o (rem o a b)) ≡ length (rem o a b) = ap length (trim_rem M a b) in
          subst (λ (l : List A). IsGcd K (series M a) (series M b) (series M l)) (sym (gcd_rule M I a b k))
          (gcd_step K (series M a) (series M (quo o a b)) (length (quo o a b)) (below_length M (quo o a b)) (series_quo_rem M a b) (ih (omega arith)))

      none : length (trim o b) < 1 → IsGcdOf a b
      none k =
          subst (λ f. IsGcd K (series M a) f (series M (gcd o a b))) (sym (series_zero K M b (omega arith)))
          (subst (λ (l : List A). IsGcd K (series M a) (zer_s (F K)) (series M l)) (sym (gcd_zero M I a b (trim_nil M b (omega arith)))) (monic_is a))

  pub gcd_is : (a b : List A) → IsGcd K (series M a) (series M b) (series M (gcd o a b))
  gcd_is a b = gcd_turns (suc (length (trim o b))) a b (omega arith)
