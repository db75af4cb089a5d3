-- Divisibility of polynomials over a field. `Divides f g`: f times a polynomial is g. Sums and multiples;
-- degrees of divisors; a multiple below its divisor's degree is 0. Everything on degrees comes from the
-- degree of a product.
use Rattle.std.specs.Prelude.{ℕ, ◌+◌ as ◌+ₙ◌, ◌-◌ as ◌-ₙ◌, ◌≤◌, ◌<◌, ◌≡◌, refl, [], ◌∷◌}
use Rattle.std.proofs.Common.{arith, sym, ◌∙◌, subst, ⊎_elim}
use Rattle.math_ring.specs.Ring.{CRing, eq_of_sub}
use Rattle.math_ring.specs.Identity.{ring, ring_from, times, plus, quote}
use Rattle.math_ring.specs.Series.{Series}
use Rattle.math_algebra.specs.Field.{Field}
use Rattle.math_algebra.specs.Polynomial.{F, Px, ◌≺◌ as Low, Deg, Monic, low_up, low_add, low_neg, low_product, low_zero, low_none, low_path, low_quotient, one_low, degree, deg_factor, deg_path, deg_not_zero, monic_deg, monic_sub}

module _ {A : Type 0} (K : Field A) where
  open Series (F K) use {add as ◌+◌, mul as ◌*◌, neg as -◌, zer as 𝟘, one as 𝟙}

  infixl 6 ◌+◌ ◌-◌
  infixl 7 ◌*◌
  infix 8 -◌
  infix 4 ◌≺◌
  abbrev R[x] : CRing (Px K)
  R[x] = Series (F K)

  abbrev ◌-◌ : Px K → Px K → Px K
  a - b = a + (- b)

  abbrev ◌≺◌ : Px K → ℕ → Type 0
  ◌≺◌ = Low K

  pub record Divides (f g : Px K) : Type 0 where
    pub by : Px K
    pub size : ℕ
    pub low : by ≺ size
    pub is : g ≡ f * by

  -- ---- sums and multiples
  pub divides_refl : (f : Px K) → Divides f f
  divides_refl f = record { by = 𝟙; size = 1; low = one_low K; is = ring R[x] (f ∷ []) (search quote depth 40 fits 9999) tt }

  pub divides_zero : (f : Px K) → Divides f 𝟘
  divides_zero f = record { by = 𝟘; size = 0; low = low_zero K 0; is = ring R[x] (f ∷ []) (search quote depth 40 fits 9999) tt }

  pub divides_one : (f : Px K) (n : ℕ) → f ≺ n → Divides 𝟙 f
  divides_one f n h = record { by = f; size = n; low = h; is = ring R[x] (f ∷ []) (search quote depth 40 fits 9999) tt }

  pub zero_divides : {f : Px K} → Divides 𝟘 f → f ≡ 𝟘
  zero_divides {f} d = ring_from R[x] (f ∷ d.by ∷ []) (times R[x] 𝟙 d.is) (search quote depth 40 fits 9999) tt

  pub divides_path : {f g h : Px K} → g ≡ h → Divides f g → Divides f h
  divides_path {f} e = subst (λ k. Divides f k) e

  pub divides_trans : {f g h : Px K} → Divides f g → Divides g h → Divides f h
  divides_trans {f} {g} {h} d e = record {
    by = d.by * e.by;
    size = d.size +ₙ e.size;
    low = low_product K d.by e.by d.size e.size d.low e.low;
    is = ring_from R[x] (f ∷ g ∷ h ∷ d.by ∷ e.by ∷ []) (plus R[x] (times R[x] 𝟙 e.is) (times R[x] e.by d.is)) (search quote depth 40 fits 9999) tt;
  }

  pub divides_add : {f g h : Px K} → Divides f g → Divides f h → Divides f (g + h)
  divides_add {f} {g} {h} d e = record {
    by = d.by + e.by;
    size = d.size +ₙ e.size;
    low = low_add K d.by e.by _ (low_up K d.by (omega arith) d.low) (low_up K e.by (omega arith) e.low);
    is = ring_from R[x] (f ∷ g ∷ h ∷ d.by ∷ e.by ∷ []) (plus R[x] (times R[x] 𝟙 d.is) (times R[x] 𝟙 e.is)) (search quote depth 40 fits 9999) tt;
  }

  pub divides_neg : {f g : Px K} → Divides f g → Divides f (- g)
  divides_neg {f} {g} d = record {
    by = - d.by;
    size = d.size;
    low = low_neg K d.by d.size d.low;
    is = ring_from R[x] (f ∷ g ∷ d.by ∷ []) (times R[x] (- 𝟙) d.is) (search quote depth 40 fits 9999) tt;
  }

  pub divides_sub : {f g h : Px K} → Divides f g → Divides f h → Divides f (g - h)
  divides_sub d e = divides_add d (divides_neg e)

  -- a multiple of f
  pub divides_multiple : (f h : Px K) (n : ℕ) → h ≺ n → Divides f (f * h)
  divides_multiple f h n b = record { by = h; size = n; low = b; is = refl }

  -- a multiple of g
  pub divides_mul : {f g : Px K} (h : Px K) (n : ℕ) → h ≺ n → Divides f g → Divides f (g * h)
  divides_mul {g = g} h n b d = divides_trans d (divides_multiple g h n b)

  pub divides_mulˡ : {f g : Px K} (h : Px K) (n : ℕ) → h ≺ n → Divides f g → Divides f (h * g)
  divides_mulˡ {g = g} h n b d = divides_path (R[x].mul_comm g h) (divides_mul h n b d)

  -- ---- degrees
  -- a divisor of a polynomial with a degree has a degree, at most that one
  pub divides_deg : {f g : Px K} (k m : ℕ) → f ≺ k → Divides f g → Deg K g m → (n : ℕ) × (n ≤ m) × Deg K f n
  divides_deg {f} {g} k m b d t = ⊎_elim none some (degree K k f b)
    where
      none : f ≡ 𝟘 → (n : ℕ) × (n ≤ m) × Deg K f n
      none z = absurd (deg_not_zero K t (ring_from R[x] (f ∷ g ∷ d.by ∷ []) (plus R[x] (times R[x] 𝟙 d.is) (times R[x] d.by z)) (search quote depth 40 fits 9999) tt))

      some : (n : ℕ) × (n < k) × Deg K f n → (n : ℕ) × (n ≤ m) × Deg K f n
      some r = (r.0, (deg_factor K d.size d.by f m r.0 d.low r.2 (deg_path K m (d.is ∙ R[x].mul_comm f d.by) t)).0, r.2)

  pub divides_le : {f g : Px K} {m n : ℕ} → Divides f g → Deg K f m → Deg K g n → m ≤ n
  divides_le {f} {g} {m} {n} d t u = (deg_factor K d.size d.by f n m d.low t (deg_path K n (d.is ∙ R[x].mul_comm f d.by) u)).0

  -- the quotient's degree
  pub divides_by_deg : {f g : Px K} {m n : ℕ} (d : Divides f g) → Deg K f m → Deg K g n → Deg K d.by (n -ₙ m)
  divides_by_deg {f} {g} {m} {n} d t u = (deg_factor K d.size d.by f n m d.low t (deg_path K n (d.is ∙ R[x].mul_comm f d.by) u)).1

  pub divides_constant : {f g : Px K} (k : ℕ) → f ≺ k → Divides f g → Deg K g 0 → Deg K f 0
  divides_constant {f} k b d t = subst (λ n. Deg K f n) zero_is r.2
    where
      r : (n : ℕ) × (n ≤ 0) × Deg K f n
      r = divides_deg k 0 b d t

      zero_is : r.0 ≡ 0
      zero_is = omega (arith, r.1)

  -- ---- a multiple below its divisor's degree
  pub divides_low : {f g : Px K} (n : ℕ) → Deg K f n → Divides f g → g ≺ n → g ≡ 𝟘
  divides_low {f} {g} n t d b = ring_from R[x] (f ∷ g ∷ d.by ∷ []) (plus R[x] (times R[x] 𝟙 d.is) (times R[x] f none)) (search quote depth 40 fits 9999) tt
    where
      none : d.by ≡ 𝟘
      none = low_none K d.by (low_quotient K d.size d.by f 0 n t d.low (low_path K (0 +ₙ n) (d.is ∙ R[x].mul_comm f d.by) (low_up K g (omega arith) b)))

  pub rigid : {f a b : Px K} (n : ℕ) → Deg K f n → Divides f (a - b) → a - b ≺ n → a ≡ b
  rigid {a = a} {b} n t d h = eq_of_sub R[x] a b (divides_low n t d h)

  -- monic polynomials that divide one another are equal
  pub divides_monic : {f g : Px K} {m n : ℕ} → Monic K f m → Monic K g n → Divides f g → Divides g f → f ≡ g
  divides_monic {f} {g} {m} {n} hf hg d e = rigid m (monic_deg K hf) (divides_sub (divides_refl f) d) low
    where
      same : m ≡ n
      same = omega (arith, divides_le d (monic_deg K hf) (monic_deg K hg), divides_le e (monic_deg K hg) (monic_deg K hf))

      low : f - g ≺ m
      low = monic_sub K f g m hf (subst (λ i. Monic K g i) (sym same) hg)
