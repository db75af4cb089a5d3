-- The proofs of specs/GeneratorProduct.
use Rattle.std.specs.Prelude.{ℕ, suc, ◌+◌ as ◌+ₙ◌, ◌-◌ as ◌-ₙ◌, ◌≤◌, ◌≡◌, [], ◌∷◌}
use Rattle.std.proofs.Common.{arith, ◌∙◌}
use Rattle.math_ring.specs.Ring.{CRing}
use Rattle.math_ring.specs.Identity.{ring, ring_from, times, plus, quote}
use Rattle.math_ring.specs.Identities.{brahmagupta, conjugate_product}
use Rattle.math_ring.specs.Series.{Series, con}
use Rattle.math_algebra.specs.Field.{Field}
use Rattle.math_algebra.specs.Polynomial.{F, Px, ◌≺◌ as Low, Deg, low_up, low_add, low_mul, low_path, low_quotient, deg_path, deg_mul, deg_con, deg_dominant, deg_factor, monic_deg}
use Rattle.math_algebra.specs.Associate.{associate_trans, associate_path, associate_scale}
use Rattle.math_surd.specs.Root.{Root, deg_twice, d_deg, D_low}
use Rattle.math_surd.specs.Big.{Big}
use Rattle.math_algebra.specs.Finite.{Finite, finite_add, finite_sub, finite_mul, finite_deg, finite_by, finite_monic, cancel_left}
use Rattle.math_ideals.specs.Product.{Common, Meets}
use Rattle.math_generators.specs.Generators.{Generates}
use Rattle.math_generators.specs.GeneratorProduct.{Multiplied}

module _ {A : Type 0} (K : Field A) where
  open Series (F K) use {add as ◌+◌, mul as ◌*◌, neg as -◌, one as 𝟙}

  infixl 6 ◌+◌ ◌-◌
  infixl 7 ◌*◌
  infix 8 -◌
  infix 4 ◌≺◌
  abbrev P[x] : Type 0
  P[x] = Px K

  abbrev R[x] : CRing P[x]
  R[x] = Series (F K)

  abbrev ◌-◌ : P[x] → P[x] → P[x]
  a - b = a + (- b)

  abbrev ◌≺◌ : P[x] → ℕ → Type 0
  ◌≺◌ = Low K

  -- ---- the proof: the quotient by S
  module _ {D Q₁ Q₂ P₁ P₂ S P : P[x]} (c : Common K Q₁ Q₂ (P₁ + P₂) S) (m : Meets K D P₁ P₂ S c.first.by c.second.by P) {x₁ y₁ x₂ y₂ : P[x]} (h₁ : Generates K D x₁ y₁ Q₁ P₁) (h₂ : Generates K D x₂ y₂ Q₂ P₂) where
    abbrev q₁ : P[x]
    q₁ = c.first.by

    abbrev q₂ : P[x]
    q₂ = c.second.by

    abbrev t : P[x]
    t = c.sum.by

    abbrev t₁ : P[x]
    t₁ = h₁.divides.by

    abbrev t₂ : P[x]
    t₂ = h₂.divides.by

    -- how often Q goes into x - y P
    abbrev product_cofactor : P[x]
    product_cofactor = y₁ * y₂ * m.cross.by - y₁ * t₂ * m.first.by - y₂ * t₁ * m.second.by + t₁ * t₂ * S

    abbrev product_y : P[x]
    product_y = y₁ * y₂ * t + t₁ * y₂ * q₁ + t₂ * y₁ * q₂

    abbrev product_x : P[x]
    product_x = product_y * P + q₁ * q₂ * product_cofactor

    x₁_is : x₁ ≡ y₁ * P₁ + S * q₁ * t₁
    x₁_is = ring_from R[x] (x₁ ∷ y₁ ∷ P₁ ∷ S ∷ q₁ ∷ t₁ ∷ Q₁ ∷ []) (plus R[x] (times R[x] 𝟙 h₁.divides.is) (times R[x] t₁ c.first.is)) (search quote depth 40 fits 9999) tt

    x₂_is : x₂ ≡ y₂ * P₂ + S * q₂ * t₂
    x₂_is = ring_from R[x] (x₂ ∷ y₂ ∷ P₂ ∷ S ∷ q₂ ∷ t₂ ∷ Q₂ ∷ []) (plus R[x] (times R[x] 𝟙 h₂.divides.is) (times R[x] t₂ c.second.is)) (search quote depth 40 fits 9999) tt

    product_y_is : S * product_y ≡ x₁ * y₂ + x₂ * y₁
    product_y_is = ring_from R[x] (S ∷ x₁ ∷ y₁ ∷ x₂ ∷ y₂ ∷ t ∷ t₁ ∷ t₂ ∷ q₁ ∷ q₂ ∷ P₁ ∷ P₂ ∷ []) (plus R[x] (times R[x] (- y₂) x₁_is) (plus R[x] (times R[x] (- y₁) x₂_is) (times R[x] (- (y₁ * y₂)) c.sum.is))) (search quote depth 40 fits 9999) tt

    product_x_is : S * product_x ≡ x₁ * x₂ + D * y₁ * y₂
    product_x_is = open_y ∙ rest
      where
        open_y : S * product_x ≡ (x₁ * y₂ + x₂ * y₁) * P + S * (q₁ * q₂ * product_cofactor)
        open_y = ring_from R[x] (S ∷ product_y ∷ P ∷ q₁ ∷ q₂ ∷ product_cofactor ∷ x₁ ∷ y₁ ∷ x₂ ∷ y₂ ∷ []) (times R[x] P product_y_is) (search quote depth 40 fits 9999) tt

        rest : (x₁ * y₂ + x₂ * y₁) * P + S * (q₁ * q₂ * product_cofactor) ≡ x₁ * x₂ + D * y₁ * y₂
        rest = ring_from R[x] (S ∷ D ∷ P ∷ P₁ ∷ P₂ ∷ q₁ ∷ q₂ ∷ x₁ ∷ y₁ ∷ x₂ ∷ y₂ ∷ t₁ ∷ t₂ ∷ m.first.by ∷ m.second.by ∷ m.cross.by ∷ []) (plus R[x] (times R[x] (y₂ * P - x₂) x₁_is) (plus R[x] (times R[x] (y₁ * P - y₁ * P₁ - S * q₁ * t₁) x₂_is) (plus R[x] (times R[x] (- (y₁ * y₂)) m.cross.is) (plus R[x] (times R[x] (S * q₁ * t₁ * y₂) m.second.is) (times R[x] (S * q₂ * t₂ * y₁) m.first.is))))) (search quote depth 40 fits 9999) tt

    module _ (f₁ : Finite K y₁) (f₂ : Finite K y₂) (f_P : Finite K P) where
      abbrev S_finite : Finite K S
      S_finite = finite_monic K c.monic

      abbrev by_finite : Finite K product_cofactor
      by_finite = finite_add K (finite_sub K (finite_sub K (finite_mul K (finite_mul K f₁ f₂) (finite_by K m.cross)) (finite_mul K (finite_mul K f₁ (finite_by K h₂.divides)) (finite_by K m.first))) (finite_mul K (finite_mul K f₂ (finite_by K h₁.divides)) (finite_by K m.second))) (finite_mul K (finite_mul K (finite_by K h₁.divides) (finite_by K h₂.divides)) S_finite)

      product_y_finite : Finite K product_y
      product_y_finite = finite_add K (finite_add K (finite_mul K (finite_mul K f₁ f₂) (finite_by K c.sum)) (finite_mul K (finite_mul K (finite_by K h₁.divides) f₂) (finite_by K c.first))) (finite_mul K (finite_mul K (finite_by K h₂.divides) f₁) (finite_by K c.second))

      Q_finite : Finite K (q₁ * q₂)
      Q_finite = finite_mul K (finite_by K c.first) (finite_by K c.second)

      product_x_finite : Finite K product_x
      product_x_finite = finite_add K (finite_mul K product_y_finite f_P) (finite_mul K Q_finite by_finite)

      abbrev k₁ : P[x]
      k₁ = con (F K) h₁.norm.factor

      abbrev k₂ : P[x]
      k₂ = con (F K) h₂.norm.factor

      constants : Deg K (k₁ * k₂) 0
      constants = deg_mul K k₁ k₂ 0 0 (deg_con K h₁.norm.factor h₁.norm.some) (deg_con K h₂.norm.factor h₂.norm.some)

      norm_is : Finite K D → product_x * product_x - D * (product_y * product_y) ≡ k₁ * k₂ * (q₁ * q₂)
      norm_is f-D = cancel_left K (deg_mul K S S c.σ c.σ (monic_deg K c.monic) (monic_deg K c.monic)) (finite_sub K (finite_mul K product_x_finite product_x_finite) (finite_mul K f-D (finite_mul K product_y_finite product_y_finite))) (finite_mul K (finite_deg K constants) Q_finite) (squares ∙ brahmagupta R[x] D x₁ y₁ x₂ y₂ ∙ norms)
        where
          squares : S * S * (product_x * product_x - D * (product_y * product_y)) ≡ (x₁ * x₂ + D * y₁ * y₂) * (x₁ * x₂ + D * y₁ * y₂) - D * ((x₁ * y₂ + x₂ * y₁) * (x₁ * y₂ + x₂ * y₁))
          squares = ring_from R[x] (S ∷ D ∷ product_x ∷ product_y ∷ x₁ ∷ y₁ ∷ x₂ ∷ y₂ ∷ []) (plus R[x] (times R[x] (S * product_x + (x₁ * x₂ + D * y₁ * y₂)) product_x_is) (times R[x] (- (D * (S * product_y + (x₁ * y₂ + x₂ * y₁)))) product_y_is)) (search quote depth 40 fits 9999) tt

          norms : (x₁ * x₁ - D * (y₁ * y₁)) * (x₂ * x₂ - D * (y₂ * y₂)) ≡ S * S * (k₁ * k₂ * (q₁ * q₂))
          norms = ring_from R[x] (S ∷ D ∷ x₁ ∷ y₁ ∷ x₂ ∷ y₂ ∷ Q₁ ∷ Q₂ ∷ q₁ ∷ q₂ ∷ k₁ ∷ k₂ ∷ []) (plus R[x] (times R[x] (x₂ * x₂ - D * (y₂ * y₂)) h₁.norm.is) (plus R[x] (times R[x] (k₁ * Q₁) h₂.norm.is) (plus R[x] (times R[x] (k₁ * k₂ * Q₂) c.first.is) (times R[x] (k₁ * k₂ * (S * q₁)) c.second.is)))) (search quote depth 40 fits 9999) tt

      product_generates : Finite K D → Generates K D product_x product_y (q₁ * q₂) P
      product_generates f-D = record {
        divides = record { by = product_cofactor; size = by_finite.size; low = by_finite.low; is = ring R[x] (product_y ∷ P ∷ q₁ ∷ q₂ ∷ product_cofactor ∷ []) (search quote depth 40 fits 9999) tt };
        norm = associate_trans K (associate_path K (norm_is f-D)) (associate_scale K (k₁ * k₂) (q₁ * q₂) constants);
      }

  -- ---- big times big, divided by S
  module _ {g : ℕ} {D : P[x]} (o : Root K g D) {x₁ y₁ x₂ y₂ x y S : P[x]} {σ : ℕ} (s : Deg K S σ) (x_finite : Finite K x) (y_finite : Finite K y) (x_is : S * x ≡ x₁ * x₂ + D * y₁ * y₂) (y_is : S * y ≡ x₁ * y₂ + x₂ * y₁) (b₁ : Big K o x₁ y₁) (b₂ : Big K o x₂ y₂) where
    abbrev d : P[x]
    d = o.d

    abbrev v₁ : ℕ
    v₁ = b₁.height

    abbrev v₂ : ℕ
    v₂ = b₂.height

    abbrev v : ℕ
    v = (suc g +ₙ (v₁ +ₙ v₂)) -ₙ σ

    yy_deg : Deg K (y₁ * y₂) (v₁ +ₙ v₂)
    yy_deg = deg_mul K y₁ y₂ v₁ v₂ b₁.y_deg b₂.y_deg

    -- S y is 2 d y₁ y₂ and less
    y_factor : (σ ≤ suc g +ₙ (v₁ +ₙ v₂)) × Deg K y v
    y_factor = deg_factor K y_finite.size y S _ σ y_finite.low s (deg_path K _ same (deg_dominant K ((d + d) * (y₁ * y₂)) ((x₁ - d * y₁) * y₂ + (x₂ - d * y₂) * y₁) _ (deg_mul K (d + d) (y₁ * y₂) (suc g) (v₁ +ₙ v₂) (deg_twice K d (suc g) (d_deg K o)) yy_deg) rest_low))
      where
        rest_low : (x₁ - d * y₁) * y₂ + (x₂ - d * y₂) * y₁ ≺ suc g +ₙ (v₁ +ₙ v₂)
        rest_low = low_add K _ _ _ (low_up K _ (omega arith) (low_mul K (x₁ - d * y₁) y₂ v₁ v₂ b₁.near b₂.y_deg.low)) (low_up K _ (omega arith) (low_mul K (x₂ - d * y₂) y₁ v₂ v₁ b₂.near b₁.y_deg.low))

        same : (d + d) * (y₁ * y₂) + ((x₁ - d * y₁) * y₂ + (x₂ - d * y₂) * y₁) ≡ y * S
        same = ring_from R[x] (d ∷ x₁ ∷ y₁ ∷ x₂ ∷ y₂ ∷ y ∷ S ∷ []) (times R[x] (- 𝟙) y_is) (search quote depth 40 fits 9999) tt

    near : x - d * y ≺ v
    near = low_quotient K fin.size (x - d * y) S v σ s fin.low (low_path K _ same (low_up K _ (omega (arith, y_factor.0)) (low_add K ((x₁ - d * y₁) * (x₂ - d * y₂)) (o.e * (y₁ * y₂)) (suc g +ₙ (v₁ +ₙ v₂)) (low_up K _ (omega arith) (low_mul K (x₁ - d * y₁) (x₂ - d * y₂) v₁ v₂ b₁.near (low_up K _ (omega arith) b₂.near))) (low_mul K o.e (y₁ * y₂) (suc g) (v₁ +ₙ v₂) o.e_low yy_deg.low))))
      where
        fin : Finite K (x - d * y)
        fin = finite_sub K x_finite (finite_mul K (finite_monic K o.monic) y_finite)

        same : (x₁ - d * y₁) * (x₂ - d * y₂) + o.e * (y₁ * y₂) ≡ (x - d * y) * S
        same = ring_from R[x] (d ∷ o.e ∷ D ∷ x₁ ∷ y₁ ∷ x₂ ∷ y₂ ∷ x ∷ y ∷ S ∷ []) (plus R[x] (times R[x] (- 𝟙) (conjugate_product R[x] d o.e x₁ y₁ x₂ y₂ o.is)) (plus R[x] (times R[x] (- 𝟙) x_is) (times R[x] d y_is))) (search quote depth 40 fits 9999) tt

    quotient_big : (b : Big K o x y) × (b.height +ₙ σ ≡ suc g +ₙ (b₁.height +ₙ b₂.height))
    quotient_big = (record { height = v; y_deg = y_factor.1; near = near }, omega (arith, y_factor.0))

  pub multiplied : {g : ℕ} {D : P[x]} (o : Root K g D) {Q₁ Q₂ P₁ P₂ S P : P[x]} (c : Common K Q₁ Q₂ (P₁ + P₂) S) → Meets K D P₁ P₂ S c.first.by c.second.by P → Finite K P
      → {x₁ y₁ x₂ y₂ : P[x]} → Generates K D x₁ y₁ Q₁ P₁ → Finite K y₁ → Generates K D x₂ y₂ Q₂ P₂ → Finite K y₂ → (Multiplied K) o c P x₁ y₁ x₂ y₂
  multiplied o c m f_P h₁ f₁ h₂ f₂ = record {
    x = product_x c m h₁ h₂;
    y = product_y c m h₁ h₂;
    x_finite = product_x_finite c m h₁ h₂ f₁ f₂ f_P;
    y_finite = product_y_finite c m h₁ h₂ f₁ f₂ f_P;
    x_is = product_x_is c m h₁ h₂;
    y_is = product_y_is c m h₁ h₂;
    generates = product_generates c m h₁ h₂ f₁ f₂ f_P (record { size = _; low = D_low K o });
    big = quotient_big o (monic_deg K c.monic) (product_x_finite c m h₁ h₂ f₁ f₂ f_P) (product_y_finite c m h₁ h₂ f₁ f₂ f_P) (product_x_is c m h₁ h₂) (product_y_is c m h₁ h₂);
  }
