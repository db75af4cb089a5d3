-- The root d of D: for D monic of degree 2n, the monic d of degree n with D - d² under degree n. There is one
-- only. Each of its coefficients, from the top down, is half of what is left of D at its place (`root_step`),
-- which is how it is computed.
use Rattle.std.specs.Prelude.{ℕ, suc, ◌+◌ as ◌+ₙ◌, ◌<◌, ◌≡◌, [], ◌∷◌}
use Rattle.std.proofs.Common.{arith, sym, ap, ap₂, ◌∙◌}
use Rattle.std.proofs.Math.Path.{refl}
use Rattle.math_ring.specs.Ring.{CRing, eq_of_sub}
use Rattle.math_ring.specs.Identity.{ring, quote}
use Rattle.math_ring.specs.Series.{Series, add_s, neg_s}
use Rattle.math_ring.specs.Degree.{lead_conv}
use Rattle.math_algebra.specs.Field.{Field}
use Rattle.math_algebra.specs.Polynomial.{F, Px, ◌≺◌ as Low, Deg, Monic, low_up, low_add, low_sub, low_mul, low_none, low_path, low_down, low_quotient}

module _ {A : Type 0} (K : Field A) where
  open Series (F K) use {add as ◌+◌, mul as ◌*◌, neg as -◌}

  infixl 6 ◌+◌ ◌-◌
  infixl 7 ◌*◌
  infix 8 -◌
  infix 4 ◌≺◌
  abbrev R[x] : CRing (Px K)
  R[x] = Series (F K)

  abbrev ◌-◌ : Px K → Px K → Px K
  a - b = a + (- b)

  abbrev ◌≺◌ : Px K → ℕ → Type 0
  ◌≺◌ = Low K

  at_add : (f g : Px K) (i : ℕ) → (f + g) i ≡ (F K).add (f i) (g i)
  unfolding add_s
  at_add f g i = refl

  at_sub : (f g : Px K) (i : ℕ) → (f - g) i ≡ (F K).add (f i) ((F K).neg (g i))
  unfolding add_s neg_s
  at_sub f g i = refl

  -- ---- one more coefficient: h has degree at most e, and twice its coefficient there is what is left of D
  pub root_step : (D d h : Px K) (e n : ℕ) → d ≺ suc n → d n ≡ (F K).one → h ≺ suc e → e < n
      → (F K).add (h e) (h e) ≡ (D - d * d) (e +ₙ n) → D - d * d ≺ suc (e +ₙ n) → D - (d + h) * (d + h) ≺ e +ₙ n
  root_step D d h e n hd one hh less twice low = low_down K (D - (d + h) * (d + h)) (e +ₙ n) (low_path K (suc (e +ₙ n)) (sym is) all) zero_top
    where
      is : D - (d + h) * (d + h) ≡ (D - d * d) - (h * d + h * d) - h * h
      is = ring R[x] (D ∷ d ∷ h ∷ []) (search quote depth 40 fits 9999) tt

      hd_low : h * d ≺ suc (e +ₙ n)
      hd_low = low_up K (h * d) (omega arith) (low_mul K h d (suc e) n hh hd)

      hh_low : h * h ≺ e +ₙ n
      hh_low = low_up K (h * h) (omega arith) (low_mul K h h (suc e) e hh hh)

      all : (D - d * d) - (h * d + h * d) - h * h ≺ suc (e +ₙ n)
      all = low_sub K _ (h * h) _ (low_sub K (D - d * d) (h * d + h * d) _ low (low_add K (h * d) (h * d) _ hd_low hd_low)) (low_up K (h * h) (omega arith) hh_low)

      at_hd : (h * d) (e +ₙ n) ≡ h e
      at_hd = lead_conv (F K) e n h d hh hd ∙ ap ((F K).mul (h e)) one ∙ (F K).mul_one (h e)

      zero_top : (D - (d + h) * (d + h)) (e +ₙ n) ≡ (F K).zer
      zero_top = ap (λ (f : Px K). f (e +ₙ n)) is ∙ spread
        where
          spread : ((D - d * d) - (h * d + h * d) - h * h) (e +ₙ n) ≡ (F K).zer
          spread = at_sub ((D - d * d) - (h * d + h * d)) (h * h) (e +ₙ n) ∙ ap₂ (λ x y. (F K).add x ((F K).neg y)) (at_sub (D - d * d) (h * d + h * d) (e +ₙ n) ∙ ap₂ (λ x y. (F K).add x ((F K).neg y)) (sym twice) (at_add (h * d) (h * d) (e +ₙ n) ∙ ap₂ (F K).add at_hd at_hd)) (hh_low (e +ₙ n) (omega arith)) ∙ ring (F K) (h e ∷ []) (search quote depth 40 fits 9999) tt

  pub record IsRoot (D d : Px K) (n : ℕ) : Type 0 where
    pub monic : Monic K d n
    pub low : D - d * d ≺ n

  -- ---- there is one only
  pub root_unique : {D d d' : Px K} {n : ℕ} → IsRoot D d n → IsRoot D d' n → d ≡ d'
  root_unique {D} {d} {d'} {n} r r' = eq_of_sub R[x] d d' (low_none K (d - d') (low_quotient K (suc n) (d - d') (d + d') 0 n sum_deg (low_sub K d d' (suc n) r.monic.low r'.monic.low) (low_path K (0 +ₙ n) gap (low_up K _ (omega arith) (low_sub K (D - d' * d') (D - d * d) n r'.low r.low)))))
    where
      gap : (D - d' * d') - (D - d * d) ≡ (d - d') * (d + d')
      gap = ring R[x] (D ∷ d ∷ d' ∷ []) (search quote depth 40 fits 9999) tt

      sum_deg : Deg K (d + d') n
      sum_deg = record { low = low_add K d d' (suc n) r.monic.low r'.monic.low; top = λ e. K.two_not_zero (ap₂ (F K).add (sym r.monic.top) (sym r'.monic.top) ∙ sym (at_add d d' n) ∙ e) }
