-- The test for square factors over a perfect field: the square of some h of degree at least 1 divides D
-- exactly where the gcd of D and D' has a degree at least 1. D' may be 0. One way is the product rule; the
-- other takes the gcd of G and D / G, and where that is constant G is a p-th power.
use Prim.Native.Nat.{ℕ, zero, suc, ◌+◌ as ◌+ₙ◌, ◌*◌ as ◌*ₙ◌, ◌≤◌, ◌<◌}
use Rattle.std.proofs.Math.Nat.{suc-mul}
use Rattle.std.proofs.Common.{zero-mul, eq-zero-or-pos, arith, ap, ◌∙◌, subst, ⊎_elim}
use Rattle.std.specs.Prelude.{◌≡◌, [], ◌∷◌}
use Rattle.std.proofs.Math.Path.{sym}
use Rattle.math_ring.specs.Ring.{CRing}
use Rattle.math_ring.specs.Identity.{ring_from, times, plus, quote}
use Rattle.math_ring.specs.Series.{Series}
use Rattle.math_ring.specs.Order.{le_or_lt}
use Rattle.math_algebra.specs.Field.{Field}
use Rattle.math_algebra.specs.Polynomial.{F, Px, ◌≺◌ as Low, Deg, low_up, low_add, low_mul, low_product, one_low, cancel}
use Rattle.math_algebra.specs.Divides.{Divides, divides_path, divides_trans, divides_add, divides_sub, divides_mulˡ, divides_multiple, divides_deg, divides_le, divides_low}
use Rattle.math_algebra.specs.Gcd.{IsGcd, gcd_exists, gcd_low, gcd_greatest}
use Rattle.math_algebra.specs.Multiple.{power}
use Rattle.math_algebra.specs.Derivative.{derivative, derivative_mul, derivative_low}
use Rattle.math_algebra.specs.Characteristic.{Perfect}
use Rattle.math_algebra.specs.PowerRoot.{PowerRoot, power_root}

module _ {A : Type 0} (K : Field A) where
  open Series (F K) use {add as ◌+◌, mul as ◌*◌, neg as -◌, zer as 𝟘, one as 𝟙}

  infixl 6 ◌+◌
  infixl 7 ◌*◌
  infix 8 -◌
  infix 4 ◌≺◌
  abbrev R[x] : CRing (Px K)
  R[x] = Series (F K)

  abbrev ◌≺◌ : Px K → ℕ → Type 0
  ◌≺◌ = Low K

  abbrev ∂ : Px K → Px K
  ∂ f = derivative (F K) f

  -- a polynomial that is not constant and whose square divides D
  pub record SquareFactor (D : Px K) : Type 0 where
    pub factor : Px K
    pub size : ℕ
    pub some : 1 ≤ size
    pub deg : Deg K factor size
    pub divides : Divides K (factor * factor) D

  -- what divides D twice divides D'
  square_derivative : {D h : Px K} (m : ℕ) → h ≺ m → Divides K (h * h) D → Divides K h (∂ D)
  square_derivative {D} {h} m b d = record {
    by = (∂ h + ∂ h) * f + h * ∂ f;
    size = m +ₙ d.size;
    low = low_add K ((∂ h + ∂ h) * f) (h * ∂ f) _ (low_product K (∂ h + ∂ h) f m d.size (low_add K (∂ h) (∂ h) m h'_low h'_low) d.low) (low_product K h (∂ f) m d.size b (derivative_low (F K) f d.size (low_up K f (omega arith) d.low)));
    is = ring_from R[x] (h ∷ f ∷ ∂ h ∷ ∂ f ∷ ∂ (h * h) ∷ ∂ D ∷ []) (plus R[x] (times R[x] 𝟙 (ap ∂ d.is ∙ derivative_mul (F K) (h * h) f)) (times R[x] f (derivative_mul (F K) h h))) (search quote depth 40 fits 9999) tt;
  }
    where
      f : Px K
      f = d.by

      h'_low : ∂ h ≺ m
      h'_low = derivative_low (F K) h m (low_up K h (omega arith) b)

  -- ---- one way: a square factor is seen by the gcd
  pub square_gcd : {D G : Px K} {n : ℕ} → Deg K D n → IsGcd K D (∂ D) G → SquareFactor D → (m : ℕ) × (1 ≤ m) × Deg K G m
  square_gcd {D} {G} {n} t i s = (r.0, omega (arith, s.some, divides_le K (gcd_greatest K i once (square_derivative (suc s.size) s.deg.low s.divides)) s.deg r.2), r.2)
    where
      once : Divides K s.factor D
      once = divides_trans K (divides_multiple K s.factor s.factor (suc s.size) s.deg.low) s.divides

      r : (m : ℕ) × (m ≤ n) × Deg K G m
      r = divides_deg K (gcd_low K i).0 n (gcd_low K i).1 i.left t

  -- ---- the other way: a gcd that is not constant gives a square factor
  -- a common divisor of the two factors of D divides D twice
  square_common : {h G f : Px K} → Divides K h G → Divides K h f → Divides K (h * h) (G * f)
  square_common {h} {G} {f} d e = record {
    by = d.by * e.by;
    size = d.size +ₙ e.size;
    low = low_product K d.by e.by d.size e.size d.low e.low;
    is = ring_from R[x] (h ∷ G ∷ f ∷ d.by ∷ e.by ∷ []) (plus R[x] (times R[x] f d.is) (times R[x] (h * d.by) e.is)) (search quote depth 40 fits 9999) tt;
  }

  -- where G divides D and D' and has only constants in common with D / G, it divides G', which is 0 then
  coprime_derivative : {D G f h : Px K} (k n : ℕ) → f ≺ k → D ≡ G * f → Divides K G (∂ D) → Deg K G n → IsGcd K G f h → Deg K h 0 → ∂ G ≡ 𝟘
  coprime_derivative {D} {G} {f} {h} k n b e d t i c = cancel K n (∂ G) h 0 c G'_low (divides_low K n t multiple (low_up K (∂ G * h) (omega arith) (low_mul K (∂ G) h n 0 G'_low c.low)))
    where
      G'_low : ∂ G ≺ n
      G'_low = derivative_low (F K) G n t.low

      f'_low : ∂ f ≺ k
      f'_low = derivative_low (F K) f k (low_up K f (omega arith) b)

      product : Divides K G (∂ G * f)
      product = divides_path K (ring_from R[x] (G ∷ f ∷ ∂ G ∷ ∂ f ∷ ∂ D ∷ []) (times R[x] 𝟙 (ap ∂ e ∙ derivative_mul (F K) G f)) (search quote depth 40 fits 9999) tt) (divides_sub K d (divides_multiple K G (∂ f) k f'_low))

      multiple : Divides K G (∂ G * h)
      multiple = divides_path K (ring_from R[x] (G ∷ f ∷ h ∷ i.u ∷ i.v ∷ ∂ G ∷ []) (times R[x] (- ∂ G) i.bezout) (search quote depth 40 fits 9999) tt) (divides_add K (divides_mulˡ K i.u i.size i.u_low (divides_multiple K G (∂ G) n G'_low)) (divides_mulˡ K i.v i.size i.v_low product))

  power_low : (f : Px K) (s : ℕ) → f ≺ s → (n : ℕ) → power R[x] f n ≺ suc (n *ₙ s)
  unfolding power
  power_low f s h zero = low_up K 𝟙 (omega arith) (one_low K)
  power_low f s h (suc n) = low_up K (f * power R[x] f n) (omega (arith, suc-mul n s)) (low_mul K f (power R[x] f n) s (n *ₙ s) h (power_low f s h n))

  -- the square of f divides each power from the second on
  square_power : (f : Px K) (s : ℕ) → f ≺ s → (n : ℕ) → 2 ≤ n → Divides K (f * f) (power R[x] f n)
  unfolding power
  square_power f s h zero l = absurd (omega arith)
  square_power f s h (suc zero) l = absurd (omega arith)
  square_power f s h (suc (suc n)) l = record { by = power R[x] f n; size = suc (n *ₙ s); low = power_low f s h n; is = sym (R[x].mul_assoc f f (power R[x] f n)) }

  pub gcd_square : Perfect K → {D G : Px K} {m : ℕ} → IsGcd K D (∂ D) G → 1 ≤ m → Deg K G m → SquareFactor D
  gcd_square P {D} {G} {m} i l d = ⊎_elim common alone (le_or_lt 1 r.0)
    where
      f : Px K
      f = i.left.by

      h : (h : Px K) × IsGcd K G f h
      h = gcd_exists K G f (suc m) i.left.size d.low i.left.low

      r : (k : ℕ) × (k ≤ m) × Deg K h.0 k
      r = divides_deg K (gcd_low K h.1).0 m (gcd_low K h.1).1 h.1.left d

      -- the two factors of D = G f have some h in common
      common : 1 ≤ r.0 → SquareFactor D
      common s = record { factor = h.0; size = r.0; some = s; deg = r.2; divides = divides_path K (sym i.left.is) (square_common h.1.left h.1.right) }

      -- or G is a p-th power
      alone : r.0 < 1 → SquareFactor D
      alone s = record { factor = w.base; size = w.size; some = some; deg = w.deg; divides = divides_trans K (divides_path K (sym w.is) (square_power w.base (suc w.size) w.deg.low P.char P.char_two)) i.left }
        where
          is : r.0 ≡ 0
          is = omega arith

          w : PowerRoot K P G m
          w = power_root K P G (coprime_derivative i.left.size m i.left.low i.left.is i.right d h.1 (subst (λ k. Deg K h.0 k) is r.2)) m d

          some : 1 ≤ w.size
          some = ⊎_elim (λ z. absurd (let e : m ≡ 0 = w.degree ∙ ap (λ k. k *ₙ P.char) z ∙ zero-mul P.char in omega arith)) (λ z. z) (eq-zero-or-pos w.size)
