-- Polynomials over a field, as series that are 0 from some place on: `f ≺ n`, of degree under n; `Deg f n`,
-- of degree n; `Monic f n`, with 1 for its leading coefficient. Sums, products, dominance and the bound of a
-- quotient, which rests on leading coefficients having inverses.
use Prim.Native.Nat.{ℕ, zero, suc, ◌+◌ as ◌+ₙ◌, ◌-◌ as ◌-ₙ◌, ◌≤◌, ◌<◌, zero-le}
use Rattle.std.proofs.Common.{eq-or-lt_of_le, arith, sym, ◌∙◌, subst, inl, inr, ⊎_elim}
use Rattle.std.specs.Prelude.{◌≡◌, ◌⊎◌, [], ◌∷◌}
use Rattle.std.proofs.Math.Path.{refl, ap, ap₂, fun_ext}
use Rattle.math_ring.specs.Ring.{CRing, mul_zer, neg_zer}
use Rattle.math_ring.specs.Identity.{ring_from, times, quote}
use Rattle.math_ring.specs.Series.{S, Series, add_s, neg_s, zer_s, con, conv_con}
use Rattle.math_ring.specs.Order.{le_or_lt}
use Rattle.math_ring.specs.Degree.{Below, below_add, below_conv, lead_conv}
use Rattle.math_ring.specs.Division.{below_con}
use Rattle.math_algebra.specs.Field.{Field, no_zero_divisor, some_mul}

module _ {A : Type 0} (K : Field A) where
  abbrev pub F : CRing A
  F = K.scalars

  abbrev pub Px : Type 0
  Px = S F

  open Series F use {add as ◌+◌, mul as ◌*◌, neg as -◌, zer as 𝟘, one as 𝟙}

  infixl 6 ◌+◌ ◌-◌
  infixl 7 ◌*◌
  infix 8 -◌
  infix 4 ◌≺◌
  abbrev ◌-◌ : Px → Px → Px
  a - b = a + (- b)

  abbrev pub ◌≺◌ : Px → ℕ → Type 0
  f ≺ n = Below F f n

  -- of degree n
  pub record Deg (f : Px) (n : ℕ) : Type 0 where
    pub low : f ≺ suc n
    pub top : f n ≡ F.zer → ⊥

  pub record Monic (f : Px) (n : ℕ) : Type 0 where
    pub low : f ≺ suc n
    pub top : f n ≡ F.one

  -- ---- bounds of the degree
  pub low_up : (f : Px) {m n : ℕ} → m ≤ n → f ≺ m → f ≺ n
  low_up f h l i p = l i (omega arith)

  pub low_zero : (n : ℕ) → 𝟘 ≺ n
  unfolding zer_s
  low_zero n i p = refl

  pub low_add : (f g : Px) (n : ℕ) → f ≺ n → g ≺ n → f + g ≺ n
  low_add = below_add F

  pub low_neg : (f : Px) (n : ℕ) → f ≺ n → - f ≺ n
  unfolding neg_s
  low_neg f n h i p = ap F.neg (h i p) ∙ neg_zer F

  pub low_sub : (f g : Px) (n : ℕ) → f ≺ n → g ≺ n → f - g ≺ n
  low_sub f g n h k = low_add f (- g) n h (low_neg g n k)

  pub low_mul : (f g : Px) (m n : ℕ) → f ≺ m → g ≺ suc n → f * g ≺ m +ₙ n
  low_mul f g m n h k i p = below_conv F m (suc n) f g h k i (omega arith)

  -- the same with no successor: weaker, and enough where only some bound is wanted
  pub low_product : (f g : Px) (m n : ℕ) → f ≺ m → g ≺ n → f * g ≺ m +ₙ n
  low_product f g m n h k = low_mul f g m n h (low_up g (omega arith) k)

  pub low_scale : (c : A) (f : Px) (n : ℕ) → f ≺ n → con F c * f ≺ n
  low_scale c f n h i p = conv_con F c f i ∙ ap (F.mul c) (h i p) ∙ mul_zer F c

  pub low_none : (f : Px) → f ≺ 0 → f ≡ 𝟘
  unfolding zer_s
  low_none f h = fun_ext (λ i. h i zero-le)

  pub low_path : {f g : Px} (n : ℕ) → f ≡ g → f ≺ n → g ≺ n
  low_path n e = subst (λ h. h ≺ n) e

  pub deg_path : {f g : Px} (n : ℕ) → f ≡ g → Deg f n → Deg g n
  deg_path n e = subst (λ h. Deg h n) e

  pub one_low : 𝟙 ≺ 1
  one_low = below_con F F.one

  -- one place lower, where the coefficient is 0
  pub low_down : (f : Px) (n : ℕ) → f ≺ suc n → f n ≡ F.zer → f ≺ n
  low_down f n h e i p = ⊎_elim (λ (w : n ≡ i). ap f (sym w) ∙ e) (λ (w : n < i). h i w) (eq-or-lt_of_le p)

  -- ---- every polynomial is 0 or has a degree
  pub degree : (n : ℕ) (f : Px) → f ≺ n → (f ≡ 𝟘) ⊎ ((m : ℕ) × (m < n) × Deg f m)
  degree zero f h = inl (low_none f h)
  degree (suc n) f h = elim (K.zero? (f n)) [ yes e ↦ ⊎_elim (λ z. inl z) (λ r. inr (r.0, omega arith, r.2)) (degree n f (low_down f n h e)) | no e ↦ inr (n, omega arith, record { low = h; top = e }) ]

  pub deg_not_zero : {f : Px} {n : ℕ} → Deg f n → f ≡ 𝟘 → ⊥
  unfolding zer_s
  deg_not_zero {n = n} t e = t.top (ap (λ (u : Px). u n) e)

  -- ---- the degree of a product
  pub deg_mul : (f g : Px) (m n : ℕ) → Deg f m → Deg g n → Deg (f * g) (m +ₙ n)
  deg_mul f g m n h k = record {
    low = λ i p. below_conv F (suc m) (suc n) f g h.low k.low i (omega arith);
    top = λ e. some_mul K (f m) (g n) h.top k.top (sym (lead_conv F m n f g h.low k.low) ∙ e);
  }

  -- ---- the bound of a quotient
  pub quot_bound : (k : ℕ) (f h : Px) (n d : ℕ) → Deg h d → f ≺ n +ₙ k → f * h ≺ n +ₙ d → f ≺ n
  quot_bound zero f h n d t b p = λ i q. b i (omega arith)
  quot_bound (suc k) f h n d t b p = quot_bound k f h n d t (low_down f (n +ₙ k) (λ i q. b i (omega arith)) top) p
    where
      top : f (n +ₙ k) ≡ F.zer
      top = no_zero_divisor K (f (n +ₙ k)) (h d) t.top (sym (lead_conv F (n +ₙ k) d f h (λ i q. b i (omega arith)) t.low) ∙ p (n +ₙ k +ₙ d) (omega arith))

  -- with any bound m on f
  pub low_quotient : (m : ℕ) (f h : Px) (n d : ℕ) → Deg h d → f ≺ m → f * h ≺ n +ₙ d → f ≺ n
  low_quotient m f h n d t b p = quot_bound m f h n d t (λ i q. b i (omega arith)) p

  -- cancellation
  pub cancel : (m : ℕ) (f h : Px) (d : ℕ) → Deg h d → f ≺ m → f * h ≡ 𝟘 → f ≡ 𝟘
  cancel m f h d t b e = low_none f (low_quotient m f h 0 d t b (low_path (0 +ₙ d) (sym e) (low_zero (0 +ₙ d))))

  -- ---- dominance
  pub deg_dominant : (f h : Px) (d : ℕ) → Deg f d → h ≺ d → Deg (f + h) d
  unfolding add_s
  deg_dominant f h d t b = record {
    low = low_add f h (suc d) t.low (low_up h (omega arith) b);
    top = λ e. t.top (sym (F.add_zer (f d)) ∙ ap (F.add (f d)) (sym (b d (omega arith))) ∙ e);
  }

  pub deg_neg : (f : Px) (d : ℕ) → Deg f d → Deg (- f) d
  unfolding neg_s
  deg_neg f d t = record { low = low_neg f (suc d) t.low; top = λ e. t.top (ring_from F (f d ∷ []) (times F (F.neg F.one) e) (search quote depth 40 fits 9999) tt) }

  -- the degree is one
  pub deg_below : (f : Px) (m n : ℕ) → Deg f m → f ≺ n → m < n
  deg_below f m n t b = ⊎_elim (λ h. absurd (t.top (b m h))) (λ h. h) (le_or_lt n m)

  pub deg_unique : {f : Px} {m n : ℕ} → Deg f m → Deg f n → m ≡ n
  deg_unique {f} {m} {n} t u = omega (arith, deg_below f m (suc n) t u.low, deg_below f n (suc m) u t.low)

  -- the degree of a factor, from that of the product
  pub deg_factor : (k : ℕ) (f g : Px) (m d : ℕ) → f ≺ k → Deg g d → Deg (f * g) m → (d ≤ m) × Deg f (m -ₙ d)
  deg_factor k f g m d b t u = ⊎_elim none some (degree k f b)
    where
      none : f ≡ 𝟘 → (d ≤ m) × Deg f (m -ₙ d)
      none z = absurd (deg_not_zero u (ring_from (Series F) (f ∷ g ∷ []) (times (Series F) g z) (search quote depth 40 fits 9999) tt))

      some : (j : ℕ) × (j < k) × Deg f j → (d ≤ m) × Deg f (m -ₙ d)
      some r = (omega (arith, e), subst (λ i. Deg f i) (omega (arith, e)) r.2)
        where
          e : r.0 +ₙ d ≡ m
          e = deg_unique (deg_mul f g r.0 d r.2 t) u

  -- ---- constants
  pub deg_con : (c : A) → (c ≡ F.zer → ⊥) → Deg (con F c) 0
  unfolding con
  deg_con c h = record { low = below_con F c; top = h }

  pub con_mul : (a b : A) → con F a * con F b ≡ con F (F.mul a b)
  unfolding con
  con_mul a b = fun_ext (λ n. conv_con F a (con F b) n ∙ at n)
    where
      at : (n : ℕ) → F.mul a (con F b n) ≡ con F (F.mul a b) n
      at zero = refl
      at (suc n) = mul_zer F a

  pub con_inv : (c : A) → (c ≡ F.zer → ⊥) → con F (K.inv c) * con F c ≡ 𝟙
  con_inv c h = con_mul (K.inv c) c ∙ ap (con F) (K.inv_mul c h)

  -- of degree 0: its first coefficient, and no other
  pub low_one : (f : Px) → f ≺ 1 → f ≡ con F (f 0)
  unfolding con
  low_one f h = fun_ext at
    where
      at : (n : ℕ) → f n ≡ con F (f 0) n
      at zero = refl
      at (suc n) = h (suc n) (omega arith)

  pub deg_scale : (c : A) (f : Px) (n : ℕ) → (c ≡ F.zer → ⊥) → Deg f n → Deg (con F c * f) n
  deg_scale c f n h t = subst (λ i. Deg (con F c * f) i) (omega arith) (deg_mul (con F c) f 0 n (deg_con c h) t)

  -- ---- monic polynomials
  pub monic_deg : {f : Px} {n : ℕ} → Monic f n → Deg f n
  monic_deg m = record { low = m.low; top = λ e. K.one_not_zero (sym m.top ∙ e) }

  pub monic_path : {f g : Px} (n : ℕ) → f ≡ g → Monic f n → Monic g n
  monic_path n e = subst (λ h. Monic h n) e

  pub monic_one : Monic 𝟙 0
  unfolding con
  monic_one = record { low = one_low; top = refl }

  -- no other is monic of degree 0
  pub monic_constant_one : (f : Px) → Monic f 0 → f ≡ 𝟙
  monic_constant_one f m = low_one f m.low ∙ ap (con F) m.top

  pub monic_mul : (f g : Px) (m n : ℕ) → Monic f m → Monic g n → Monic (f * g) (m +ₙ n)
  monic_mul f g m n h k = record {
    low = low_up (f * g) (omega arith) (low_mul f g (suc m) n h.low k.low);
    top = lead_conv F m n f g h.low k.low ∙ ap₂ F.mul h.top k.top ∙ F.mul_one F.one;
  }

  pub monic_factor : (k : ℕ) (f g : Px) (m d : ℕ) → f ≺ k → Monic g d → Monic (f * g) m → (d ≤ m) × Monic f (m -ₙ d)
  monic_factor k f g m d b h e = (t.0, record { low = t.1.low; top = sym (F.mul_one (f (m -ₙ d))) ∙ ap (F.mul (f (m -ₙ d))) (sym h.top) ∙ sym (lead_conv F (m -ₙ d) d f g t.1.low h.low) ∙ ap (f * g) at ∙ e.top })
    where
      t : (d ≤ m) × Deg f (m -ₙ d)
      t = deg_factor k f g m d b (monic_deg h) (monic_deg e)

      at : (m -ₙ d) +ₙ d ≡ m
      at = omega (arith, t.0)

  pub monic_dominant : (f h : Px) (n : ℕ) → Monic f n → h ≺ n → Monic (f + h) n
  unfolding add_s
  monic_dominant f h n m b = record {
    low = low_add f h (suc n) m.low (low_up h (omega arith) b);
    top = ap₂ F.add m.top (b n (omega arith)) ∙ F.add_zer F.one;
  }

  -- two leading terms that cancel
  pub monic_sub : (f g : Px) (n : ℕ) → Monic f n → Monic g n → f - g ≺ n
  unfolding add_s neg_s
  monic_sub f g n h k = low_down (f - g) n (low_sub f g (suc n) h.low k.low) (ap₂ (λ a b. F.add a (F.neg b)) h.top k.top ∙ F.add_neg F.one)

  -- divided by its leading coefficient
  pub monic_of : (f : Px) (n : ℕ) → Deg f n → Monic (con F (K.inv (f n)) * f) n
  monic_of f n t = record {
    low = low_scale (K.inv (f n)) f (suc n) t.low;
    top = conv_con F (K.inv (f n)) f n ∙ K.inv_mul (f n) t.top;
  }
