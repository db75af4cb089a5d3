-- Quotient and remainder of lists are the only ones: so they depend on the polynomials alone, whatever zeros
-- stand at the end. Their lengths.
use Prim.Native.Nat.{ℕ, ◌+◌ as ◌+ₙ◌, ◌-◌ as ◌-ₙ◌, ◌≤◌, ◌<◌}
use Rattle.std.proofs.Common.{arith, sym, ◌∙◌, subst, ⊎_elim, get_or-drop}
use Rattle.std.specs.Prelude.{◌≡◌, List, [], ◌∷◌, drop}
use Rattle.std.proofs.Math.Path.{refl, ap, fun_ext}
use Rattle.std.proofs.Math.ListN.{length}
use Rattle.math_ring.specs.Ring.{CRing, neg_zer, eq_of_sub}
use Rattle.math_ring.specs.Identity.{ring, ring_from, times, plus, quote}
use Rattle.math_ring.specs.Order.{le_or_lt}
use Rattle.math_ring.specs.Series.{S, Series, add_s, conv, neg_s, zer_s, con}
use Rattle.math_ring.specs.Degree.{Below, below_add}
use Rattle.math_ring.specs.Division.{no_quo}
use Rattle.spec_arithmetic.specs.Field.{Ops}
use Rattle.spec_arithmetic.specs.Polynomials.{trim, divide, lead, quo, rem}
use Rattle.spec_bridge.specs.Model.{Model, Inverts, series}
use Rattle.spec_bridge.specs.Trim.{trim_idem, trim_none, trim_nil, below_length, below_size, length_le, size_series, series_trim, series_ext, lead_some, lead_none, lead_is}
use Rattle.spec_bridge.specs.Division.{trim_rem, trim_quo, oks_rem, oks_quo, series_quo_rem, rem_by_zero, rem_below, rem_less}
use Rattle.spec_bridge.specs.Stages.{quo_drop, divide_low_quo, divide_low_rem, divide_none_quo}

module _ {A B : Type 0} {o : Ops A} {R : CRing B} (M : Model o R) where
  open M use {φ}

  zero_at : (i : ℕ) → zer_s R i ≡ R.zer
  unfolding zer_s
  zero_at i = refl

  below_sub : (f g : S R) (n : ℕ) → Below R f n → Below R g n → Below R (add_s R f (neg_s R g)) n
  unfolding neg_s
  below_sub f g n h k = below_add R f (neg_s R g) n h (λ i p. ap R.neg (k i p) ∙ neg_zer R)

  -- ---- the divisor alone: its zeros at the end do not matter
  -- ---- lengths
  pub quo_length : (a b : List A) → length (quo o a b) ≤ length (trim o a) +ₙ 1 -ₙ length (trim o b)
  unfolding quo
  quo_length a b = length_le M _ _ (trim_idem M _) (λ i p. ap (λ (f : S R). f i) (series_trim M (divide o (o.inv (lead o b)) (trim o b) a).quo) ∙ past i p)
    where
      k : ℕ
      k = length (trim o a) +ₙ 1 -ₙ length (trim o b)

      past : (i : ℕ) → k ≤ i → series M (divide o (o.inv (lead o b)) (trim o b) a).quo i ≡ R.zer
      past i p =
          let split : k +ₙ (i -ₙ k) ≡ i = omega arith in
          ap (series M (divide o (o.inv (lead o b)) (trim o b) a).quo) (sym split) ∙ ap φ (quo_drop M (o.inv (lead o b)) (trim o b) a k (i -ₙ k)) ∙ divide_low_quo M _ (trim o b) (drop k a) low (i -ₙ k)
        where
          low : Below R (series M (drop k a)) (length (trim o b) -ₙ 1)
          low j r = ap φ (get_or-drop k a j o.zer) ∙ below_size M a (k +ₙ j) (omega arith)

  -- a dividend shorter than the divisor is the remainder
  pub rem_low : (a b : List A) → length (trim o a) < length (trim o b) → series M (rem o a b) ≡ series M a
  unfolding rem
  rem_low a b h = fun_ext (divide_low_rem M _ (trim o b) a (λ i p. below_size M a i (omega arith)))

  module _ (I : Inverts M) where
    -- ---- uniqueness
    lead_inverse : (b : List A) → 0 < length (trim o b) → R.mul (φ (o.inv (lead o b))) (series M b (length (trim o b) -ₙ 1)) ≡ R.one
    lead_inverse b h = ap (λ z. R.mul (φ (o.inv (lead o b))) (φ z)) (sym (lead_is M b)) ∙ I.inv_mul (lead o b) (lead_some M b h)

    pub quo_rem_unique : (a b : List A) (f r : S R) (n : ℕ) → 0 < length (trim o b) → Below R f n → Below R r (length (trim o b) -ₙ 1) → series M a ≡ add_s R (conv R f (series M b)) r
        → (series M (quo o a b) ≡ f) × (series M (rem o a b) ≡ r)
    quo_rem_unique a b f r n h hf hr e = (same, rest)
      where
        gap : add_s R r (neg_s R (series M (rem o a b))) ≡ conv R (add_s R (series M (quo o a b)) (neg_s R f)) (series M b)
        gap = ring_from (Series R) (f ∷ r ∷ series M a ∷ series M b ∷ series M (quo o a b) ∷ series M (rem o a b) ∷ []) (plus (Series R) (times (Series R) (neg_s R (con R R.one)) e) (times (Series R) (con R R.one) (series_quo_rem M a b))) (search quote depth 40 fits 9999) tt

        none : add_s R (series M (quo o a b)) (neg_s R f) ≡ zer_s R
        none = no_quo R (length (quo o a b) +ₙ n) _ (series M b) (length (trim o b) -ₙ 1) (φ (o.inv (lead o b))) (lead_inverse b h) (λ i p. below_size M b i (omega arith)) (below_sub (series M (quo o a b)) f _ (λ i p. below_length M (quo o a b) i (omega arith)) (λ i p. hf i (omega arith))) (subst (λ (g : S R). Below R g (length (trim o b) -ₙ 1)) gap (below_sub r (series M (rem o a b)) _ hr (rem_below M I a b h)))

        same : series M (quo o a b) ≡ f
        same = eq_of_sub (Series R) _ _ none

        rest : series M (rem o a b) ≡ r
        rest = ring_from (Series R) (f ∷ r ∷ series M a ∷ series M b ∷ series M (quo o a b) ∷ series M (rem o a b) ∷ []) (plus (Series R) (plus (Series R) (times (Series R) (con R R.one) e) (times (Series R) (neg_s R (con R R.one)) (series_quo_rem M a b))) (times (Series R) (neg_s R (series M b)) same)) (search quote depth 40 fits 9999) tt

    -- by the zero polynomial the quotient is 0
    pub quo_by_zero : (a b : List A) → trim o b ≡ [] → quo o a b ≡ []
    unfolding quo
    quo_by_zero a b z = trim_none M _ (λ i p. divide_none_quo M (o.inv (lead o b)) (I.inv_zer (lead o b) (lead_none M b (ap length z))) (trim o b) a i)

    -- ---- only the polynomials matter
    module _ (a a' b b' : List A) (h : series M a ≡ series M a') (k : series M b ≡ series M b') where
      same_size : length (trim o b) ≡ length (trim o b')
      same_size = size_series M b b' k

      same_both : 0 < length (trim o b') → (series M (quo o a b) ≡ series M (quo o a' b')) × (series M (rem o a b) ≡ series M (rem o a' b'))
      same_both p = quo_rem_unique a b (series M (quo o a' b')) (series M (rem o a' b')) (length (quo o a' b')) (omega (arith, same_size)) (below_length M (quo o a' b')) (λ i l. rem_below M I a' b' p i (omega (arith, same_size))) (h ∙ series_quo_rem M a' b' ∙ ap (λ f. add_s R (conv R (series M (quo o a' b')) f) (series M (rem o a' b'))) (sym k))

      none' : length (trim o b') < 1 → trim o b' ≡ []
      none' p = trim_nil M b' (omega arith)

      none : length (trim o b') < 1 → trim o b ≡ []
      none p = trim_nil M b (omega (arith, same_size))

      pub rem_cong : rem o a b ≡ rem o a' b'
      rem_cong = series_ext M _ _ (trim_rem M a b) (trim_rem M a' b') (oks_rem M a b) (oks_rem M a' b') (⊎_elim (λ p. (same_both p).1) (λ p. rem_by_zero M a b (none p) ∙ h ∙ sym (rem_by_zero M a' b' (none' p))) (le_or_lt 1 (length (trim o b'))))

      pub quo_cong : quo o a b ≡ quo o a' b'
      quo_cong = ⊎_elim (λ p. series_ext M _ _ (trim_quo M a b) (trim_quo M a' b') (oks_quo M a b) (oks_quo M a' b') (same_both p).0) (λ p. quo_by_zero a b (none p) ∙ sym (quo_by_zero a' b' (none' p))) (le_or_lt 1 (length (trim o b')))

    -- never longer than the dividend
    pub rem_length : (a b : List A) → length (rem o a b) ≤ length (trim o a)
    rem_length a b = ⊎_elim some (λ h. as_dividend (rem_low a b h)) (le_or_lt (length (trim o b)) (length (trim o a)))
      where
        as_dividend : series M (rem o a b) ≡ series M a → length (rem o a b) ≤ length (trim o a)
        as_dividend e = length_le M _ _ (trim_rem M a b) (subst (λ (f : S R). Below R f (length (trim o a))) (sym e) (below_size M a))

        some : length (trim o b) ≤ length (trim o a) → length (rem o a b) ≤ length (trim o a)
        some h = ⊎_elim (λ p. let w = rem_less M I a b p in omega arith) (λ p. as_dividend (rem_by_zero M a b (trim_nil M b (omega arith)))) (le_or_lt 1 (length (trim o b)))

    -- ---- exact division
    pub quo_exact : (a b : List A) (f : S R) (n : ℕ) → 0 < length (trim o b) → Below R f n → series M a ≡ conv R f (series M b) → (series M (quo o a b) ≡ f) × (rem o a b ≡ [])
    quo_exact a b f n h hf e = (both.0, sym (trim_rem M a b) ∙ trim_none M (rem o a b) (λ i p. ap (λ (g : S R). g i) both.1 ∙ zero_at i))
      where
        both : (series M (quo o a b) ≡ f) × (series M (rem o a b) ≡ zer_s R)
        both = quo_rem_unique a b f (zer_s R) n h hf (λ i p. zero_at i) (e ∙ ring (Series R) (f ∷ series M b ∷ []) (search quote depth 40 fits 9999) tt)
