-- Series that end, so polynomials, with no degree named: closed under the ring's operations. A factor with a
-- degree cancels.
use Rattle.std.specs.Prelude.{ℕ, suc, ◌+◌ as ◌+ₙ◌, ◌≡◌, [], ◌∷◌}
use Rattle.std.proofs.Common.{arith, subst}
use Rattle.math_ring.specs.Ring.{CRing, eq_of_sub}
use Rattle.math_ring.specs.Identity.{ring_from, times, quote}
use Rattle.math_ring.specs.Series.{Series}
use Rattle.math_algebra.specs.Field.{Field}
use Rattle.math_algebra.specs.Polynomial.{F, Px, ◌≺◌ as Low, Deg, Monic, low_up, low_add, low_neg, low_product, cancel}
use Rattle.math_algebra.specs.Divides.{Divides, divides_multiple}

module _ {A : Type 0} (K : Field A) where
  open Series (F K) use {add as ◌+◌, mul as ◌*◌, neg as -◌, zer as 𝟘, one as 𝟙}

  infixl 6 ◌+◌ ◌-◌
  infixl 7 ◌*◌
  infix 8 -◌
  abbrev R[x] : CRing (Px K)
  R[x] = Series (F K)

  abbrev ◌-◌ : Px K → Px K → Px K
  a - b = a + (- b)

  pub record Finite (f : Px K) : Type 0 where
    pub size : ℕ
    pub low : Low K f size

  pub finite_add : {f g : Px K} → Finite f → Finite g → Finite (f + g)
  finite_add {f} {g} a b = record { size = a.size +ₙ b.size; low = low_add K f g _ (low_up K f (omega arith) a.low) (low_up K g (omega arith) b.low) }

  pub finite_neg : {f : Px K} → Finite f → Finite (- f)
  finite_neg {f} a = record { size = a.size; low = low_neg K f a.size a.low }

  pub finite_sub : {f g : Px K} → Finite f → Finite g → Finite (f - g)
  finite_sub a b = finite_add a (finite_neg b)

  pub finite_mul : {f g : Px K} → Finite f → Finite g → Finite (f * g)
  finite_mul {f} {g} a b = record { size = a.size +ₙ b.size; low = low_product K f g a.size b.size a.low b.low }

  pub finite_deg : {f : Px K} {n : ℕ} → Deg K f n → Finite f
  finite_deg {n = n} t = record { size = suc n; low = t.low }

  pub finite_monic : {f : Px K} {n : ℕ} → Monic K f n → Finite f
  finite_monic {n = n} t = record { size = suc n; low = t.low }

  pub finite_by : {f g : Px K} (d : Divides K f g) → Finite d.by
  finite_by d = record { size = d.size; low = d.low }

  pub finite_path : {f g : Px K} → f ≡ g → Finite f → Finite g
  finite_path e = subst Finite e

  -- a polynomial's multiples
  pub divides_finite : (f : Px K) {h : Px K} → Finite h → Divides K f (f * h)
  divides_finite f {h} a = divides_multiple K f h a.size a.low

  pub cancel_left : {f g h : Px K} {n : ℕ} → Deg K h n → Finite f → Finite g → h * f ≡ h * g → f ≡ g
  cancel_left {f} {g} {h} {n} t a b e = let c = finite_sub a b in eq_of_sub R[x] f g (cancel K c.size (f - g) h n t c.low gone)
    where
      gone : (f - g) * h ≡ 𝟘
      gone = ring_from R[x] (f ∷ g ∷ h ∷ []) (times R[x] 𝟙 e) (search quote depth 40 fits 9999) tt
