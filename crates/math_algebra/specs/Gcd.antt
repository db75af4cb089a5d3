-- Greatest common divisors of polynomials over a field. `IsGcd A B G`: G divides A and B, is a combination of
-- them (Bezout), and is 0 or monic. It exists for all A and B, the zero polynomial among them, by Euclid's
-- recursion: the bound of the second polynomial falls. Every common divisor divides it.
use Rattle.std.specs.Prelude.{ℕ, zero, suc, ◌+◌ as ◌+ₙ◌, ◌<◌, ◌≡◌, refl, ◌⊎◌, [], ◌∷◌}
use Rattle.std.proofs.Common.{arith, sym, subst, inl, inr, ⊎_elim}
use Rattle.math_ring.specs.Ring.{CRing}
use Rattle.math_ring.specs.Identity.{ring, ring_from, times, plus, quote}
use Rattle.math_ring.specs.Series.{Series, con}
use Rattle.math_ring.specs.Division.{below_con}
use Rattle.math_algebra.specs.Field.{Field}
use Rattle.math_algebra.specs.Polynomial.{F, Px, ◌≺◌ as Low, Deg, Monic, low_up, low_sub, low_product, low_zero, low_none, low_path, degree, con_inv, monic_of}
use Rattle.math_algebra.specs.Divides.{Divides, divides_zero, zero_divides, divides_path, divides_add, divides_mulˡ}
use Rattle.math_algebra.specs.Division.{Division, division}

module _ {A : Type 0} (K : Field A) where
  open Series (F K) use {add as ◌+◌, mul as ◌*◌, neg as -◌, zer as 𝟘, one as 𝟙}

  infixl 6 ◌+◌ ◌-◌
  infixl 7 ◌*◌
  infix 8 -◌
  infix 4 ◌≺◌
  abbrev R[x] : CRing (Px K)
  R[x] = Series (F K)

  abbrev ◌-◌ : Px K → Px K → Px K
  a - b = a + (- b)

  abbrev ◌≺◌ : Px K → ℕ → Type 0
  ◌≺◌ = Low K

  pub record IsGcd (a b g : Px K) : Type 0 where
    pub left : Divides K g a
    pub right : Divides K g b
    pub u : Px K
    pub v : Px K
    pub size : ℕ
    pub u_low : u ≺ size
    pub v_low : v ≺ size
    pub bezout : g ≡ u * a + v * b
    pub form : (g ≡ 𝟘) ⊎ ((n : ℕ) × Monic K g n)

  -- ---- the two rules
  -- the gcd of a and 0 is a made monic, and 0 where a is
  pub gcd_base_zero : IsGcd 𝟘 𝟘 𝟘
  gcd_base_zero = record {
    left = divides_zero K 𝟘;
    right = divides_zero K 𝟘;
    u = 𝟘;
    v = 𝟘;
    size = 0;
    u_low = low_zero K 0;
    v_low = low_zero K 0;
    bezout = ring R[x] [] (search quote depth 40 fits 9999) tt;
    form = inl refl;
  }

  pub base_is : (a : Px K) (n : ℕ) → Deg K a n → a ≡ (con (F K) (K.inv (a n)) * a) * con (F K) (a n)
  base_is a n t = ring_from R[x] (a ∷ con (F K) (a n) ∷ con (F K) (K.inv (a n)) ∷ []) (times R[x] (- a) (con_inv K (a n) t.top)) (search quote depth 40 fits 9999) tt

  pub base_bezout : (a : Px K) (n : ℕ) → con (F K) (K.inv (a n)) * a ≡ con (F K) (K.inv (a n)) * a + 𝟘 * 𝟘
  base_bezout a n = ring R[x] (a ∷ con (F K) (K.inv (a n)) ∷ []) (search quote depth 40 fits 9999) tt

  unfoldable pub gcd_base : (a : Px K) (n : ℕ) → Deg K a n → IsGcd a 𝟘 (con (F K) (K.inv (a n)) * a)
  gcd_base a n t = record {
    left = record {
      by = con (F K) (a n);
      size = 1;
      low = below_con (F K) (a n);
      is = base_is a n t;
    };
    right = divides_zero K _;
    u = con (F K) (K.inv (a n));
    v = 𝟘;
    size = 1;
    u_low = below_con (F K) (K.inv (a n));
    v_low = low_zero K 1;
    bezout = base_bezout a n;
    form = inr (n, monic_of K a n t);
  }

  pub step_bezout : {a g : Px K} (b r q u v : Px K) → a ≡ q * b + r → g ≡ u * b + v * r → g ≡ v * a + (u - q * v) * b
  step_bezout {a} {g} b r q u v e h = ring_from R[x] (a ∷ b ∷ r ∷ g ∷ q ∷ u ∷ v ∷ []) (plus R[x] (times R[x] 𝟙 h) (times R[x] (- v) e)) (search quote depth 40 fits 9999) tt

  -- the gcd of b and the remainder of a by b is that of a and b
  unfoldable pub gcd_step : {b r g : Px K} (a q : Px K) (k : ℕ) → q ≺ k → a ≡ q * b + r → IsGcd b r g → IsGcd a b g
  gcd_step {b} {r} {g} a q k h e i = record {
    left = divides_path K (sym e) (divides_add K (divides_mulˡ K q k h i.left) i.right);
    right = i.left;
    u = i.v;
    v = i.u - q * i.v;
    size = i.size +ₙ (k +ₙ i.size);
    u_low = low_up K i.v (omega arith) i.v_low;
    v_low = low_sub K i.u (q * i.v) _ (low_up K i.u (omega arith) i.u_low) (low_up K (q * i.v) (omega arith) (low_product K q i.v k i.size h i.v_low));
    bezout = step_bezout b r q i.u i.v e i.bezout;
    form = i.form;
  }

  -- ---- existence
  -- Euclid's recursion: what holds of every (a, 0), and of (a, b) where it holds of b and the remainder of a
  -- by b, holds of every pair
  pub euclid : (P : Px K → Px K → Type 0)
      → ((a : Px K) (m : ℕ) → a ≺ m → P a 𝟘)
      → ((a b : Px K) (m d : ℕ) → a ≺ m → Deg K b d → (s : Division K a b m d) → P b s.rem → P a b)
      → (a b : Px K) (m n : ℕ) → a ≺ m → b ≺ n → P a b
  euclid P base step a b m zero ha hb = subst (P a) (sym (low_none K b hb)) (base a m ha)
  euclid P base step a b m (suc n) ha hb = call (λ r h. euclid P base step b r (suc n) n hb h)
    where
      -- one call of the recursion, where the calls on remainders are given
      call : ((r : Px K) → r ≺ n → P b r) → P a b
      call rest = ⊎_elim (λ z. subst (P a) (sym z) (base a m ha)) some (degree K (suc n) b hb)
        where
          some : (d : ℕ) × (d < suc n) × Deg K b d → P a b
          some t = step a b m t.0 ha t.2 s (rest s.rem (low_up K s.rem (omega (arith, t.1)) s.rem_low))
            where
              s : Division K a b m t.0
              s = division K m a b t.0 ha t.2

  gcd_with_zero : (a : Px K) (m : ℕ) → a ≺ m → (g : Px K) × IsGcd a 𝟘 g
  gcd_with_zero a m h = ⊎_elim none some (degree K m a h)
    where
      none : a ≡ 𝟘 → (g : Px K) × IsGcd a 𝟘 g
      none z = (𝟘, subst (λ c. IsGcd c 𝟘 𝟘) (sym z) gcd_base_zero)

      some : (k : ℕ) × (k < m) × Deg K a k → (g : Px K) × IsGcd a 𝟘 g
      some r = (con (F K) (K.inv (a r.0)) * a, gcd_base a r.0 r.2)

  pub gcd_exists : (a b : Px K) (m n : ℕ) → a ≺ m → b ≺ n → (g : Px K) × IsGcd a b g
  gcd_exists = euclid (λ a b. (g : Px K) × IsGcd a b g) gcd_with_zero (λ a b m d h t s r. (r.0, gcd_step a s.quo m s.quo_low s.is r.1))

  -- ---- what a gcd is
  pub gcd_low : {a b g : Px K} → IsGcd a b g → (n : ℕ) × (g ≺ n)
  gcd_low i = ⊎_elim (λ z. (0, low_path K 0 (sym z) (low_zero K 0))) (λ m. (suc m.0, m.1.low)) i.form

  -- a common divisor divides it
  pub gcd_greatest : {a b g c : Px K} → IsGcd a b g → Divides K c a → Divides K c b → Divides K c g
  gcd_greatest i d e = divides_path K (sym i.bezout) (divides_add K (divides_mulˡ K i.u i.size i.u_low d) (divides_mulˡ K i.v i.size i.v_low e))

  -- it is 0 only where both are
  pub gcd_zero : {a b g : Px K} → IsGcd a b g → g ≡ 𝟘 → (a ≡ 𝟘) × (b ≡ 𝟘)
  gcd_zero {a} {b} {g} i z = (zero_divides K (subst (λ c. Divides K c a) z i.left), zero_divides K (subst (λ c. Divides K c b) z i.right))

  -- otherwise it is monic
  pub gcd_monic : {a b g : Px K} → IsGcd a b g → (g ≡ 𝟘 → ⊥) → (n : ℕ) × Monic K g n
  gcd_monic i h = ⊎_elim (λ z. absurd (h z)) (λ m. m) i.form
