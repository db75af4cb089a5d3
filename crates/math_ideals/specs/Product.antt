-- The product of two ideals (Q₁, P₁) and (Q₂, P₂): S, Q = Q₁ Q₂ / S² and P modulo Q. Carried by three
-- congruences (`Meets`) that P meets and that hold of one P modulo Q only, whatever multipliers u, v, w of S
-- = u Q₁ + v Q₂ + w (P₁ + P₂) are taken.
use Rattle.std.specs.Prelude.{ℕ, ◌≡◌}
use Rattle.math_ring.specs.Series.{Series}
use Rattle.math_algebra.specs.Field.{Field}
use Rattle.math_algebra.specs.Polynomial.{F, Px, Monic}
use Rattle.math_algebra.specs.Divides.{Divides}
use Rattle.math_surd.specs.Step.{State}
use Rattle.math_algebra.specs.Finite.{Finite}

module _ {A : Type 0} (K : Field A) where
  open Series (F K) use {add as ◌+◌, mul as ◌*◌, neg as -◌, one as 𝟙}

  infixl 6 ◌+◌ ◌-◌
  infixl 7 ◌*◌
  infix 8 -◌
  abbrev P[x] : Type 0
  P[x] = Px K

  abbrev ◌-◌ : P[x] → P[x] → P[x]
  a - b = a + (- b)

  -- S is monic and divides Q₁, Q₂ and the sum T
  pub record Common (Q₁ Q₂ T S : P[x]) : Type 0 where
    pub σ : ℕ
    pub monic : Monic K S σ
    pub first : Divides K S Q₁
    pub second : Divides K S Q₂
    pub sum : Divides K S T

  pub record Multipliers (Q₁ Q₂ T S : P[x]) : Type 0 where
    pub u : P[x]
    pub v : P[x]
    pub w : P[x]
    pub u_finite : Finite K u
    pub v_finite : Finite K v
    pub w_finite : Finite K w
    pub is : S ≡ u * Q₁ + v * Q₂ + w * T

  -- what P meets, where Q₁ = S q₁ and Q₂ = S q₂
  pub record Meets (D P₁ P₂ S q₁ q₂ P : P[x]) : Type 0 where
    pub first : Divides K q₁ (P - P₁)
    pub second : Divides K q₂ (P - P₂)
    pub cross : Divides K (S * (q₁ * q₂)) (P₁ * P₂ + D - (P₁ + P₂) * P)

  -- ---- the pair (Q, P)
  module _ {D Q₁ C₁ P₁ Q₂ C₂ P₂ S : P[x]} (s₁ : State K D Q₁ C₁ P₁) (s₂ : State K D Q₂ C₂ P₂) (c : Common Q₁ Q₂ (P₁ + P₂) S) where
    abbrev q₁ : P[x]
    q₁ = c.first.by

    abbrev q₂ : P[x]
    q₂ = c.second.by

    abbrev pub product_Q : P[x]
    product_Q = q₁ * q₂

    module _ (b : Multipliers Q₁ Q₂ (P₁ + P₂) S) where
      abbrev u : P[x]
      u = b.u

      abbrev w : P[x]
      w = b.w

      -- P before it is reduced modulo Q
      abbrev pub product_P : P[x]
      product_P = P₁ + q₁ * (u * (P₂ - P₁) + w * C₁)
