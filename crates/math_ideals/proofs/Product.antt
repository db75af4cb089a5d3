-- The proofs of specs/Product.
use Rattle.std.specs.Prelude.{ℕ, ◌+◌ as ◌+ₙ◌, ◌-◌ as ◌-ₙ◌, ◌≤◌, ◌≡◌, refl, [], ◌∷◌}
use Rattle.std.proofs.Common.{sym, ap, ◌∙◌}
use Rattle.math_ring.specs.Ring.{CRing}
use Rattle.math_ring.specs.Identity.{ring, ring_from, times, plus, quote}
use Rattle.math_ring.specs.Identities.{product_balance, product_second, product_cross, product_norm}
use Rattle.math_ring.specs.Series.{Series}
use Rattle.math_algebra.specs.Field.{Field}
use Rattle.math_algebra.specs.Polynomial.{F, Px, ◌≺◌ as Low, Deg, Monic, low_neg, low_sub, monic_deg, monic_mul, monic_factor, monic_path, one_low}
use Rattle.math_algebra.specs.Divides.{Divides, divides_refl, divides_path, divides_add, divides_sub, divides_mulˡ, divides_trans, rigid}
use Rattle.math_algebra.specs.Division.{Division}
use Rattle.math_surd.specs.Step.{State}
use Rattle.math_algebra.specs.Finite.{Finite, finite_add, finite_sub, finite_mul, finite_by, finite_path, divides_finite, cancel_left}
use Rattle.math_ideals.specs.Product.{product_P}
use Rattle.math_ideals.specs.Product as defs

module _ {A : Type 0} (K : Field A) where
  open Series (F K) use {add as ◌+◌, mul as ◌*◌, neg as -◌, one as 𝟙}

  infixl 6 ◌+◌ ◌-◌
  infixl 7 ◌*◌
  infix 8 -◌
  infix 4 ◌≺◌
  abbrev P[x] : Type 0
  P[x] = Px K

  abbrev R[x] : CRing P[x]
  R[x] = Series (F K)

  abbrev ◌-◌ : P[x] → P[x] → P[x]
  a - b = a + (- b)

  abbrev ◌≺◌ : P[x] → ℕ → Type 0
  ◌≺◌ = Low K

  abbrev Common : (Q₁ Q₂ T S : P[x]) → Type 0
  Common = defs.Common K

  abbrev Multipliers : (Q₁ Q₂ T S : P[x]) → Type 0
  Multipliers = defs.Multipliers K

  abbrev Meets : (D P₁ P₂ S q₁ q₂ P : P[x]) → Type 0
  Meets = defs.Meets K

  -- ---- Q divides D - P²
  pub meets_norm : {D P₁ P₂ S q₁ q₂ P : P[x]} → Finite K S → Meets D P₁ P₂ S q₁ q₂ P → Divides K (q₁ * q₂) (D - P * P)
  meets_norm {D} {P₁} {P₂} {S} {q₁} {q₂} {P} s m = divides_path K (sym (product_norm R[x] D P P₁ P₂)) (divides_sub K whole both)
    where
      x : P[x]
      x = m.first.by

      y : P[x]
      y = m.second.by

      whole : Divides K (q₁ * q₂) (P₁ * P₂ + D - (P₁ + P₂) * P)
      whole = divides_trans K (divides_mulˡ K S s.size s.low (divides_refl K (q₁ * q₂))) m.cross

      both : Divides K (q₁ * q₂) ((P - P₁) * (P - P₂))
      both = divides_path K same (divides_finite K (q₁ * q₂) (finite_mul K (finite_by K m.first) (finite_by K m.second)))
        where
          same : q₁ * q₂ * (x * y) ≡ (P - P₁) * (P - P₂)
          same = ring_from R[x] (q₁ ∷ q₂ ∷ x ∷ y ∷ P ∷ P₁ ∷ P₂ ∷ []) (plus R[x] (times R[x] (- (q₂ * y)) m.first.is) (times R[x] (- (P - P₁)) m.second.is)) (search quote depth 40 fits 9999) tt

  -- ---- the pair (Q, P)
  module _ {D Q₁ C₁ P₁ Q₂ C₂ P₂ S : P[x]} (s₁ : State K D Q₁ C₁ P₁) (s₂ : State K D Q₂ C₂ P₂) (c : Common Q₁ Q₂ (P₁ + P₂) S) where
    abbrev q₁ : P[x]
    q₁ = c.first.by

    abbrev q₂ : P[x]
    q₂ = c.second.by

    abbrev t : P[x]
    t = c.sum.by

    abbrev product_Q : P[x]
    product_Q = defs.product_Q K s₁ s₂ c

    abbrev f_q₁ : Finite K q₁
    f_q₁ = finite_by K c.first

    abbrev f_q₂ : Finite K q₂
    f_q₂ = finite_by K c.second

    abbrev f_t : Finite K t
    f_t = finite_by K c.sum

    abbrev f_P₁ : Finite K P₁
    f_P₁ = record { size = s₁.size; low = s₁.P_low }

    abbrev f_P₂ : Finite K P₂
    f_P₂ = record { size = s₂.size; low = s₂.P_low }

    abbrev f_C₁ : Finite K C₁
    f_C₁ = record { size = s₁.size; low = s₁.C_low }

    abbrev f_C₂ : Finite K C₂
    f_C₂ = record { size = s₂.size; low = s₂.C_low }

    S_deg : Deg K S c.σ
    S_deg = monic_deg K c.monic

    -- Q S² = Q₁ Q₂
    pub product_square : product_Q * (S * S) ≡ Q₁ * Q₂
    product_square = ring_from R[x] (q₁ ∷ q₂ ∷ S ∷ Q₁ ∷ Q₂ ∷ []) (plus R[x] (times R[x] (- (S * q₂)) c.first.is) (times R[x] (- Q₁) c.second.is)) (search quote depth 40 fits 9999) tt

    cofactor_monic : {Q : P[x]} {n : ℕ} (d : Divides K S Q) → Monic K Q n → (c.σ ≤ n) × Monic K d.by (n -ₙ c.σ)
    cofactor_monic {Q} {n} d m = monic_factor K d.size d.by S n c.σ d.low c.monic (monic_path K n (d.is ∙ R[x].mul_comm S d.by) m)

    -- Q is monic, of the degree of Q₁ Q₂ less twice that of S
    pub product_monic : {m n : ℕ} → Monic K Q₁ m → Monic K Q₂ n → (c.σ ≤ m) × (c.σ ≤ n) × Monic K product_Q ((m -ₙ c.σ) +ₙ (n -ₙ c.σ))
    product_monic {m} {n} h k = let x = cofactor_monic c.first h in let y = cofactor_monic c.second k in (x.0, y.0, monic_mul K q₁ q₂ (m -ₙ c.σ) (n -ₙ c.σ) x.1 y.1)

    -- the norms' difference, with S cancelled
    balance : t * (P₁ - P₂) + q₁ * C₁ ≡ q₂ * C₂
    balance = cancel_left K S_deg (finite_add K (finite_mul K f_t (finite_sub K f_P₁ f_P₂)) (finite_mul K f_q₁ f_C₁)) (finite_mul K f_q₂ f_C₂) (product_balance R[x] S q₁ q₂ t P₁ P₂ Q₁ Q₂ C₁ C₂ D c.first.is c.second.is c.sum.is s₁.norm s₂.norm)

    module _ (b : Multipliers Q₁ Q₂ (P₁ + P₂) S) where
      abbrev u : P[x]
      u = b.u

      abbrev v : P[x]
      v = b.v

      abbrev w : P[x]
      w = b.w

      pub product_P_finite : Finite K (product_P K s₁ s₂ c b)
      product_P_finite = finite_add K f_P₁ (finite_mul K f_q₁ (finite_add K (finite_mul K b.u_finite (finite_sub K f_P₂ f_P₁)) (finite_mul K b.w_finite f_C₁)))

      pub cofactors : u * q₁ + v * q₂ + w * t ≡ 𝟙
      cofactors = cancel_left K S_deg (finite_add K (finite_add K (finite_mul K b.u_finite f_q₁) (finite_mul K b.v_finite f_q₂)) (finite_mul K b.w_finite f_t)) (record { size = 1; low = one_low K }) same
        where
          same : S * (u * q₁ + v * q₂ + w * t) ≡ S * 𝟙
          same = ring_from R[x] (S ∷ u ∷ v ∷ w ∷ q₁ ∷ q₂ ∷ t ∷ Q₁ ∷ Q₂ ∷ P₁ ∷ P₂ ∷ []) (plus R[x] (times R[x] (- 𝟙) b.is) (plus R[x] (times R[x] (- u) c.first.is) (plus R[x] (times R[x] (- v) c.second.is) (times R[x] (- w) c.sum.is)))) (search quote depth 40 fits 9999) tt

      pub product_meets : Meets D P₁ P₂ S q₁ q₂ (product_P K s₁ s₂ c b)
      product_meets = record {
        first = record { by = u * (P₂ - P₁) + w * C₁; size = _; low = (finite_add K (finite_mul K b.u_finite (finite_sub K f_P₂ f_P₁)) (finite_mul K b.w_finite f_C₁)).low; is = ring R[x] (P₁ ∷ P₂ ∷ q₁ ∷ u ∷ w ∷ C₁ ∷ []) (search quote depth 40 fits 9999) tt };
        second = record { by = v * (P₁ - P₂) + w * C₂; size = _; low = (finite_add K (finite_mul K b.v_finite (finite_sub K f_P₁ f_P₂)) (finite_mul K b.w_finite f_C₂)).low; is = product_second R[x] u v w q₁ q₂ t P₁ P₂ C₁ C₂ cofactors balance refl };
        cross = record { by = u * C₂ + v * C₁; size = _; low = (finite_add K (finite_mul K b.u_finite f_C₂) (finite_mul K b.v_finite f_C₁)).low; is = product_cross R[x] u v w S q₁ q₂ t P₁ P₂ Q₁ C₁ C₂ cofactors balance c.first.is c.sum.is s₁.norm refl ∙ ap (λ f. f * (u * C₂ + v * C₁)) (R[x].mul_assoc S q₁ q₂) };
      }

    -- ---- which P meet them
    -- every P of one class modulo Q
    pub meets_congruent : {P P' : P[x]} → Meets D P₁ P₂ S q₁ q₂ P → Divides K product_Q (P' - P) → Meets D P₁ P₂ S q₁ q₂ P'
    meets_congruent {P} {P'} m d = record {
      first = divides_path K to_first (divides_add K m.first (divides_trans K (divides_finite K q₁ f_q₂) d));
      second = divides_path K to_second (divides_add K m.second (divides_trans K (divides_path K (R[x].mul_comm q₂ q₁) (divides_finite K q₂ f_q₁)) d));
      cross = divides_path K to_cross (divides_sub K m.cross (divides_finite K (S * (q₁ * q₂)) (finite_mul K f_t (finite_by K d))));
    }
      where
        to_first : (P - P₁) + (P' - P) ≡ P' - P₁
        to_first = ring R[x] (P ∷ P' ∷ P₁ ∷ []) (search quote depth 40 fits 9999) tt

        to_second : (P - P₂) + (P' - P) ≡ P' - P₂
        to_second = ring R[x] (P ∷ P' ∷ P₂ ∷ []) (search quote depth 40 fits 9999) tt

        to_cross : (P₁ * P₂ + D - (P₁ + P₂) * P) - S * (q₁ * q₂) * (t * d.by) ≡ P₁ * P₂ + D - (P₁ + P₂) * P'
        to_cross = ring_from R[x] (P ∷ P' ∷ P₁ ∷ P₂ ∷ D ∷ S ∷ q₁ ∷ q₂ ∷ t ∷ d.by ∷ []) (plus R[x] (times R[x] (q₁ * q₂ * d.by) c.sum.is) (times R[x] (P₁ + P₂) d.is)) (search quote depth 40 fits 9999) tt

    -- and no other, where S has multipliers
    pub meets_same : Multipliers Q₁ Q₂ (P₁ + P₂) S → {P P' : P[x]} → Meets D P₁ P₂ S q₁ q₂ P → Meets D P₁ P₂ S q₁ q₂ P' → Divides K product_Q (P - P')
    meets_same b {P} {P'} m m' = record { by = whole; size = _; low = (finite_add K (finite_add K (finite_mul K b.u_finite f_y) (finite_mul K b.v_finite f_x)) (finite_mul K b.w_finite f_z)).low; is = all }
      where
        -- P - P' = q₁ x = q₂ y, and t (P - P') = Q z
        x : P[x]
        x = m.first.by - m'.first.by

        y : P[x]
        y = m.second.by - m'.second.by

        z : P[x]
        z = m'.cross.by - m.cross.by

        f_x : Finite K x
        f_x = finite_sub K (finite_by K m.first) (finite_by K m'.first)

        f_y : Finite K y
        f_y = finite_sub K (finite_by K m.second) (finite_by K m'.second)

        f_z : Finite K z
        f_z = finite_sub K (finite_by K m'.cross) (finite_by K m.cross)

        whole : P[x]
        whole = b.u * y + b.v * x + b.w * z

        by_first : P - P' ≡ q₁ * x
        by_first = ring_from R[x] (P ∷ P' ∷ P₁ ∷ q₁ ∷ m.first.by ∷ m'.first.by ∷ []) (plus R[x] (times R[x] 𝟙 m.first.is) (times R[x] (- 𝟙) m'.first.is)) (search quote depth 40 fits 9999) tt

        by_second : P - P' ≡ q₂ * y
        by_second = ring_from R[x] (P ∷ P' ∷ P₂ ∷ q₂ ∷ m.second.by ∷ m'.second.by ∷ []) (plus R[x] (times R[x] 𝟙 m.second.is) (times R[x] (- 𝟙) m'.second.is)) (search quote depth 40 fits 9999) tt

        by_cross : t * (P - P') ≡ q₁ * q₂ * z
        by_cross = cancel_left K S_deg (finite_mul K f_t (finite_path K (sym by_first) (finite_mul K f_q₁ f_x))) (finite_mul K (finite_mul K f_q₁ f_q₂) f_z) same
          where
            same : S * (t * (P - P')) ≡ S * (q₁ * q₂ * z)
            same = ring_from R[x] (P ∷ P' ∷ P₁ ∷ P₂ ∷ D ∷ S ∷ q₁ ∷ q₂ ∷ t ∷ m.cross.by ∷ m'.cross.by ∷ []) (plus R[x] (times R[x] (- (P - P')) c.sum.is) (plus R[x] (times R[x] (- 𝟙) m.cross.is) (times R[x] 𝟙 m'.cross.is))) (search quote depth 40 fits 9999) tt

        all : P - P' ≡ q₁ * q₂ * whole
        all = ring_from R[x] (P ∷ P' ∷ q₁ ∷ q₂ ∷ t ∷ b.u ∷ b.v ∷ b.w ∷ x ∷ y ∷ z ∷ []) (plus R[x] (times R[x] (- (P - P')) (cofactors b)) (plus R[x] (times R[x] (b.u * q₁) by_second) (plus R[x] (times R[x] (b.v * q₂) by_first) (times R[x] b.w by_cross)))) (search quote depth 40 fits 9999) tt

    -- the one P below the degree of Q: it does not depend on the multipliers
    pub meets_unique : Multipliers Q₁ Q₂ (P₁ + P₂) S → {P P' : P[x]} (n : ℕ) → Deg K product_Q n → P ≺ n → P' ≺ n → Meets D P₁ P₂ S q₁ q₂ P → Meets D P₁ P₂ S q₁ q₂ P' → P ≡ P'
    meets_unique b {P} {P'} n h l l' m m' = rigid K n h (meets_same b m m') (low_sub K P P' n l l')

    -- P reduced modulo Q
    pub remainder_meets : (b : Multipliers Q₁ Q₂ (P₁ + P₂) S) {k n : ℕ} (d : Division K ((product_P K s₁ s₂ c) b) product_Q k n) → Meets D P₁ P₂ S q₁ q₂ d.rem
    remainder_meets b {k} d = meets_congruent (product_meets b) (record { by = - d.quo; size = k; low = low_neg K d.quo k d.quo_low; is = ring_from R[x] ((product_P K s₁ s₂ c) b ∷ product_Q ∷ d.quo ∷ d.rem ∷ []) (times R[x] (- 𝟙) d.is) (search quote depth 40 fits 9999) tt })
