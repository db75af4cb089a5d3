-- Over a perfect field of characteristic p a polynomial whose derivative is 0 is the p-th power of a
-- polynomial. The coefficients of f^p are known one by one: the p-th power of that of f at i stands at i p,
-- and the others are 0.
use Prim.Native.Nat.{ℕ, zero, suc, ◌+◌ as ◌+ₙ◌, ◌*◌ as ◌*ₙ◌, ◌/◌, ◌%◌, ◌<◌}
use Rattle.std.proofs.Math.Nat.{suc-mul, zero-add as zero-addₙ}
use Rattle.std.proofs.Common.{zero-mul, add-zero as add-zeroₙ, mod-lt, div-add-mod', mul-lt-mul_of_pos_right, arith, ◌∙◌, subst}
use Rattle.std.specs.Prelude.{◌≡◌}
use Rattle.std.proofs.Math.Path.{refl, sym, ap, ap₂, fun_ext}
use Rattle.math_ring.specs.Ring.{CRing, zer_add, zer_mul}
use Rattle.math_ring.specs.Series.{S, Series, add_s, conv, zer_s, con, tail}
use Rattle.math_ring.specs.Division.{up, shift, shift_at, up_conv, shift_conv, below_con}
use Rattle.math_algebra.specs.Field.{Field, no_zero_divisor}
use Rattle.math_algebra.specs.Polynomial.{F, Px, ◌≺◌, Deg, con_mul}
use Rattle.math_algebra.specs.Multiple.{natural_drop, power, power_zero}
use Rattle.math_algebra.specs.Derivative.{derivative, derivative_none}
use Rattle.math_algebra.specs.Characteristic.{Characteristic, Perfect, perfect_characteristic, series_characteristic}
use Rattle.math_algebra.specs.Frobenius.{frobenius}

-- ---- powers of the two parts of f = f 0 + x (tail f)
module _ {A : Type 0} (K : Field A) where
  abbrev R : CRing A
  R = K.scalars

  abbrev pow : S R → ℕ → S R
  pow = power (Series R)

  power_con : (c : A) (n : ℕ) → pow (con R c) n ≡ con R (power R c n)
  unfolding power
  power_con c zero = refl
  power_con c (suc n) = ap (conv R (con R c)) (power_con c n) ∙ con_mul K c (power R c n)

  power_up : (f : S R) (n : ℕ) → pow (up R f) n ≡ shift R n (pow f n)
  unfolding power shift
  power_up f zero = refl
  power_up f (suc n) = fun_ext (up_conv R f (pow (up R f) n)) ∙ ap (up R) (ap (conv R f) (power_up f n) ∙ (Series R).mul_comm f (shift R n (pow f n)) ∙ shift_conv R n (pow f n) f ∙ ap (shift R n) ((Series R).mul_comm (pow f n) f))

  shift_low : (k : ℕ) (f : S R) (i : ℕ) → i < k → shift R k f i ≡ R.zer
  unfolding shift up
  shift_low zero f i h = absurd (omega arith)
  shift_low (suc k) f zero h = refl
  shift_low (suc k) f (suc i) h = shift_low k f i (omega arith)

  pub parts : (f : S R) → f ≡ add_s R (con R (f 0)) (up R (tail R f))
  parts f = fun_ext at
    where
      at : (i : ℕ) → f i ≡ add_s R (con R (f 0)) (up R (tail R f)) i
      at zero = unfold add_s con up in sym (R.add_zer (f 0))
      at (suc i) = unfold add_s con up in sym (zer_add R (f (suc i)))

  module _ (p : ℕ) (c : Characteristic R p) where
    power_parts : (f : S R) → pow f p ≡ add_s R (con R (power R (f 0) p)) (shift R p (pow (tail R f) p))
    power_parts f = ap (λ u. pow u p) (parts f) ∙ frobenius (Series R) p (series_characteristic R p c) (con R (f 0)) (up R (tail R f)) ∙ ap₂ (add_s R) (power_con (f 0) p) (power_up (tail R f) p)

    -- the coefficient of f^p at i p + r
    pub power_at : (f : S R) (i r : ℕ) → r < p → pow f p (i *ₙ p +ₙ r) ≡ con R (power R (f i) p) r
    unfolding add_s
    power_at f zero r h = ap (pow f p) start ∙ ap (λ (u : S R). u r) (power_parts f) ∙ ap (R.add (con R (power R (f 0) p) r)) (shift_low p (pow (tail R f) p) r h) ∙ R.add_zer (con R (power R (f 0) p) r)
      where
        start : 0 *ₙ p +ₙ r ≡ r
        start = ap (λ t. t +ₙ r) (zero-mul p) ∙ zero-addₙ r
    power_at f (suc i) r h = ap (pow f p) next ∙ ap (λ (u : S R). u (p +ₙ (i *ₙ p +ₙ r))) (power_parts f) ∙ ap₂ R.add (below_con R (power R (f 0) p) (p +ₙ (i *ₙ p +ₙ r)) (omega (arith, c.positive))) (shift_at R p (pow (tail R f) p) (i *ₙ p +ₙ r) ∙ power_at (tail R f) i r h) ∙ zer_add R (con R (power R (f (suc i)) p) r)
      where
        next : suc i *ₙ p +ₙ r ≡ p +ₙ (i *ₙ p +ₙ r)
        next = omega (arith, suc-mul i p)

-- ---- the p-th root
module _ {A : Type 0} (K : Field A) (P : Perfect K) where
  abbrev p : ℕ
  p = P.char

  abbrev char_F : Characteristic (F K) p
  char_F = perfect_characteristic K P

  power_none : (x : A) (n : ℕ) → power (F K) x n ≡ (F K).zer → x ≡ (F K).zer
  unfolding power
  power_none x zero e = absurd (K.one_not_zero e)
  power_none x (suc n) e = elim (K.zero? x) [ yes z ↦ z | no z ↦ power_none x n (no_zero_divisor K (power (F K) x n) x z ((F K).mul_comm (power (F K) x n) x ∙ e)) ]

  root_zero : (c : A) → c ≡ (F K).zer → P.root c ≡ (F K).zer
  root_zero c e = power_none (P.root c) p (P.root_power c ∙ e)

  -- a p-th root of G, where G has degree n
  pub record PowerRoot (G : Px K) (n : ℕ) : Type 0 where
    pub base : Px K
    pub size : ℕ
    pub deg : Deg K base size
    pub degree : n ≡ size *ₙ P.char
    pub is : G ≡ power (Series (F K)) base P.char

  module _ (G : Px K) (no_derivative : derivative (F K) G ≡ zer_s (F K)) where
    -- only the exponents that p divides have a coefficient
    coefficient : (i r : ℕ) → r < p → G (i *ₙ p +ₙ r) ≡ con (F K) (G (i *ₙ p)) r
    unfolding con
    coefficient i zero h = ap G (add-zeroₙ (i *ₙ p))
    coefficient i (suc r) h = char_F.cancels (suc r) (omega arith) h (G (i *ₙ p +ₙ suc r)) (sym (natural_drop (F K) p (G (i *ₙ p +ₙ suc r)) (ap (λ t. (F K).mul t (G (i *ₙ p +ₙ suc r))) P.char_zero ∙ zer_mul (F K) (G (i *ₙ p +ₙ suc r))) i (suc r)) ∙ derivative_none (F K) G no_derivative (i *ₙ p +ₙ suc r))

    abbrev roots : Px K
    roots = λ i. P.root (G (i *ₙ p))

    roots_power : G ≡ power (Series (F K)) roots p
    roots_power = fun_ext (λ k. subst (λ j. G j ≡ power (Series (F K)) roots p j) (div-add-mod' k p) (same (k / p) (k % p) (mod-lt k char_F.positive)))
      where
        same : (i r : ℕ) → r < p → G (i *ₙ p +ₙ r) ≡ power (Series (F K)) roots p (i *ₙ p +ₙ r)
        same i r h = coefficient i r h ∙ ap (λ c. con (F K) c r) (sym (P.root_power (G (i *ₙ p)))) ∙ sym (power_at K p char_F roots i r h)

    -- G is the p-th power of a polynomial, and its degree is p times that one's
    pub power_root : (n : ℕ) → Deg K G n → PowerRoot G n
    power_root n d = go (n % p) refl
      where
        m : ℕ
        m = n / p

        split : m *ₙ p +ₙ n % p ≡ n
        split = div-add-mod' n p

        small : n % p < p
        small = mod-lt n char_F.positive

        go : (r : ℕ) → n % p ≡ r → PowerRoot G n
        go (suc r) e = absurd (d.top (ap G (sym split) ∙ coefficient m (n % p) small ∙ below_con (F K) (G (m *ₙ p)) (n % p) (omega arith)))
        go zero e = record { base = roots; size = m; deg = record { low = low; top = top }; degree = is; is = roots_power }
          where
            is : n ≡ m *ₙ p
            is = omega (arith, split)

            low : ◌≺◌ K roots (suc m)
            low i l = root_zero (G (i *ₙ p)) (d.low (i *ₙ p) (subst (λ t. t < i *ₙ p) (sym is) (mul-lt-mul_of_pos_right l char_F.positive)))

            top : roots m ≡ (F K).zer → ⊥
            top z = d.top (ap G is ∙ sym (P.root_power (G (m *ₙ p))) ∙ ap (λ x. power (F K) x p) z ∙ power_zero (F K) p char_F.positive)
