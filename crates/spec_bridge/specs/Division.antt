-- Division of lists is division of polynomials: a = quo·b + rem, and rem is shorter than b, since the
-- divisor's leading coefficient has its inverse.
use Prim.Native.Nat.{ℕ, zero, suc, ◌-◌ as ◌-ₙ◌, ◌≤◌, ◌<◌}
use Rattle.std.proofs.Common.{le_of_suc-le-suc, eq-or-lt_of_le, arith, sym, ◌∙◌, ⊎_elim}
use Rattle.std.specs.Prelude.{◌≡◌}
use Rattle.std.proofs.Math.Path.{refl, ap, ap₂, subst}
use mathlib.Core.List.{List, [], ◌∷◌}
use Rattle.std.proofs.Math.ListN.{length}
use Rattle.math_ring.specs.Ring.{CRing}
use Rattle.math_ring.specs.Identity.{ring, ring_from, times, quote}
use Rattle.math_ring.specs.Series.{Series, add_s, conv, neg_s, con}
use Rattle.math_ring.specs.Degree.{Below}
use Rattle.spec_arithmetic.specs.Field.{Ops}
use Rattle.spec_arithmetic.specs.Polynomials.{Split, at, trim, scale, put, divide, lead, quo, rem}
use Rattle.spec_bridge.specs.Model.{Model, Inverts, Oks, series, series_nil}
use Rattle.spec_bridge.specs.Trim.{Trim, trim_idem, below_length, length_le, series_trim, lead_some, lead_is, trim_kept, oks_trim}
use Rattle.spec_bridge.specs.Arithmetic.{X, at_sub, at_scale, oks_sub, trim_sub, series_cons, series_sub, series_scale}

module _ {A B : Type 0} {o : Ops A} {R : CRing B} (M : Model o R) where
  open M use {φ, φ_zer, φ_sub, φ_mul, Ok, ok_zer, ok_mul}

  -- ---- one coefficient more
  pub divide_trim : (u : A) (b p : List A) → Trim M (divide o u b p).rem
  unfolding divide put trim
  divide_trim u b [] = refl
  divide_trim u b (a ∷ p) = step (divide o u b p)
    where
      step : (s : Split A) → Trim M (put o u b a s).rem
      step s = trim_sub M (a ∷ s.rem) (scale o (o.mul (at o (a ∷ s.rem) (length b -ₙ 1)) u) b)

  pub divide_oks : (u : A) (b p : List A) → Oks M (divide o u b p).rem
  unfolding divide put
  divide_oks u b [] i = ok_zer
  divide_oks u b (a ∷ p) i = step (divide o u b p)
    where
      step : (s : Split A) → Ok (at o (put o u b a s).rem i)
      step s = oks_sub M (a ∷ s.rem) (scale o (o.mul (at o (a ∷ s.rem) (length b -ₙ 1)) u) b) i

  pub divide_quo_oks : (u : A) (b p : List A) → Oks M (divide o u b p).quo
  unfolding divide put
  divide_quo_oks u b [] i = ok_zer
  divide_quo_oks u b (a ∷ p) i = step (divide o u b p) (divide_quo_oks u b p) i
    where
      step : (s : Split A) → Oks M s.quo → Oks M (put o u b a s).quo
      step s k zero = ok_mul _ _
      step s k (suc i) = k i

  -- the remainder's coefficient at i
  pub put_at : (u : A) (b : List A) (a : A) (s : Split A) (i : ℕ) → at o (put o u b a s).rem i ≡ o.sub (at o (a ∷ s.rem) i) (o.mul (o.mul (at o (a ∷ s.rem) (length b -ₙ 1)) u) (at o b i))
  unfolding put
  put_at u b a s i = at_sub M (a ∷ s.rem) (scale o (o.mul (at o (a ∷ s.rem) (length b -ₙ 1)) u) b) i ∙ ap (o.sub (at o (a ∷ s.rem) i)) (at_scale M _ b i)

  -- whatever u is, p = quo·b + rem
  pub series_divide : (u : A) (b p : List A) → series M p ≡ add_s R (conv R (series M (divide o u b p).quo) (series M b)) (series M (divide o u b p).rem)
  unfolding divide put
  series_divide u b [] = series_nil M ∙ ring (Series R) (series M b ∷ []) (search quote depth 40 fits 9999) tt ∙ ap (λ f. add_s R (conv R f (series M b)) f) (sym (series_nil M))
  series_divide u b (a ∷ p) = step (divide o u b p) (series_divide u b p)
    where
      step : (s : Split A) → series M p ≡ add_s R (conv R (series M s.quo) (series M b)) (series M s.rem)
          → series M (a ∷ p) ≡ add_s R (conv R (series M (put o u b a s).quo) (series M b)) (series M (put o u b a s).rem)
      step s h =
          let c : A = o.mul (at o (a ∷ s.rem) (length b -ₙ 1)) u in
          series_cons M a p ∙ ap (λ f. add_s R (con R (φ a)) (conv R (X M) f)) h
          ∙ ring (Series R) (con R (φ a) ∷ con R (φ c) ∷ X M ∷ series M s.quo ∷ series M s.rem ∷ series M b ∷ []) (search quote depth 40 fits 9999) tt
          ∙ ap₂ (λ f g. add_s R (conv R f (series M b)) g) (sym (series_cons M c s.quo)) (sym (series_sub M (a ∷ s.rem) (scale o c b) ∙ ap₂ (λ f g. add_s R f (neg_s R g)) (series_cons M a s.rem) (series_scale M c b)))

  -- where u is the inverse of b's last coefficient, the remainder is shorter than b
  pub divide_below : (u : A) (c : A) (l p : List A) → R.mul (φ u) (φ (at o (c ∷ l) (length l))) ≡ R.one → Below R (series M (divide o u (c ∷ l) p).rem) (length l)
  unfolding divide
  divide_below u c l [] e i h = φ_zer
  divide_below u c l (a ∷ p) e i h = step (divide o u (c ∷ l) p) (divide_below u c l p e) i h
    where
      b : List A
      b = c ∷ l

      m : ℕ
      m = length l

      step : (s : Split A) → Below R (series M s.rem) m → Below R (series M (put o u b a s).rem) m
      step s h i p = ap φ (put_at u b a s i) ∙ φ_sub _ _ ∙ ap (λ z. R.add (φ (at o (a ∷ s.rem) i)) (R.neg z)) (φ_mul _ _ ∙ ap (λ z. R.mul z (φ (at o b i))) (φ_mul _ _ ∙ ap (λ (k : ℕ). R.mul (φ (at o (a ∷ s.rem) k)) (φ u)) m_is)) ∙ ⊎_elim here past (eq-or-lt_of_le p)
        where
          m_is : length b -ₙ 1 ≡ m
          m_is = omega arith

          t : ℕ → B
          t k = φ (at o (a ∷ s.rem) k)

          top : (k : ℕ) → m < k → t k ≡ R.zer
          top zero q = absurd (omega arith)
          top (suc k) q = h k (le_of_suc-le-suc q)

          here : m ≡ i → R.add (t i) (R.neg (R.mul (R.mul (t m) (φ u)) (φ (at o b i)))) ≡ R.zer
          here q = subst (λ (k : ℕ). R.add (t k) (R.neg (R.mul (R.mul (t m) (φ u)) (φ (at o b k)))) ≡ R.zer) q (ring_from R (t m ∷ φ u ∷ φ (at o b m) ∷ []) (times R (R.neg (t m)) e) (search quote depth 40 fits 9999) tt)

          past : m < i → R.add (t i) (R.neg (R.mul (R.mul (t m) (φ u)) (φ (at o b i)))) ≡ R.zer
          past q = ap₂ (λ x y. R.add x (R.neg (R.mul (R.mul (t m) (φ u)) y))) (top i q) (below_length M b i q) ∙ ring R (t m ∷ φ u ∷ []) (search quote depth 40 fits 9999) tt

  -- ---- quotient and remainder of any two lists
  pub trim_rem : (a b : List A) → Trim M (rem o a b)
  unfolding rem
  trim_rem a b = divide_trim _ (trim o b) a

  pub trim_quo : (a b : List A) → Trim M (quo o a b)
  unfolding quo
  trim_quo a b = trim_idem M _

  pub oks_rem : (a b : List A) → Oks M (rem o a b)
  unfolding rem
  oks_rem a b = divide_oks _ (trim o b) a

  pub oks_quo : (a b : List A) → Oks M (quo o a b)
  unfolding quo
  oks_quo a b = oks_trim M _ (divide_quo_oks _ (trim o b) a)

  -- a = quo·b + rem
  pub series_quo_rem : (a b : List A) → series M a ≡ add_s R (conv R (series M (quo o a b)) (series M b)) (series M (rem o a b))
  unfolding quo rem
  series_quo_rem a b = series_divide _ (trim o b) a ∙ ap₂ (λ f g. add_s R (conv R f g) (series M (divide o (o.inv (lead o b)) (trim o b) a).rem)) (sym (series_trim M _)) (series_trim M b)

  -- by the zero polynomial the remainder is the dividend
  pub rem_by_zero : (a b : List A) → trim o b ≡ [] → series M (rem o a b) ≡ series M a
  rem_by_zero a b z = ring (Series R) (series M (quo o a b) ∷ series M (rem o a b) ∷ []) (search quote depth 40 fits 9999) tt ∙ ap (λ f. add_s R (conv R (series M (quo o a b)) f) (series M (rem o a b))) (sym (sym (series_trim M b) ∙ ap (series M) z ∙ series_nil M)) ∙ sym (series_quo_rem a b)

  module _ (I : Inverts M) where
    inv_last : (b : List A) (c : A) (l : List A) → trim o b ≡ c ∷ l → R.mul (φ (o.inv (lead o b))) (φ (at o (c ∷ l) (length l))) ≡ R.one
    inv_last b c l e = ap (λ z. R.mul (φ (o.inv (lead o b))) (φ z)) (sym lead_last) ∙ I.inv_mul (lead o b) (lead_some M b some)
      where
        some : 0 < length (trim o b)
        some = subst (λ (t : List A). 0 < length t) (sym e) (omega arith)

        lead_last : lead o b ≡ at o (c ∷ l) (length l)
        lead_last = lead_is M b ∙ sym (trim_kept M b (length (trim o b) -ₙ 1) (omega (arith, some))) ∙ ap (λ (t : List A). at o t (length t -ₙ 1)) e ∙ ap (at o (c ∷ l)) (let h : length (c ∷ l) -ₙ 1 ≡ length l = omega arith in h)

    -- the remainder has a lower degree than the divisor
    pub rem_below : (a b : List A) → 0 < length (trim o b) → Below R (series M (rem o a b)) (length (trim o b) -ₙ 1)
    unfolding rem
    rem_below a b h = go (trim o b) refl
      where
        go : (t : List A) → trim o b ≡ t → Below R (series M (divide o (o.inv (lead o b)) (trim o b) a).rem) (length (trim o b) -ₙ 1)
        go [] e = absurd (let k : length (trim o b) ≡ 0 = ap length e in omega arith)
        go (c ∷ l) e = subst (λ (t : List A). Below R (series M (divide o (o.inv (lead o b)) t a).rem) (length t -ₙ 1)) (sym e) (λ i p. divide_below _ c l a (inv_last b c l e) i (omega arith))

    pub rem_less : (a b : List A) → 0 < length (trim o b) → length (rem o a b) < length (trim o b)
    rem_less a b h = let k : length (rem o a b) ≤ length (trim o b) -ₙ 1 = length_le M _ _ (trim_rem a b) (rem_below a b h) in omega arith
