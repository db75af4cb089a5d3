-- A generator of a product: where (x₁, y₁) generates (Q₁, P₁) and (x₂, y₂) generates (Q₂, P₂), the pair (x₁ +
-- y₁ √D)(x₂ + y₂ √D) / S generates their product (Q, P). `multiplied` says so: the divisions by S are exact
-- by the product's three congruences, and of two big pairs the quotient is big.
use Rattle.std.specs.Prelude.{ℕ, suc, ◌+◌ as ◌+ₙ◌, ◌≡◌}
use Rattle.math_ring.specs.Series.{Series}
use Rattle.math_algebra.specs.Field.{Field}
use Rattle.math_algebra.specs.Polynomial.{F, Px}
use Rattle.math_surd.specs.Root.{Root}
use Rattle.math_surd.specs.Big.{Big}
use Rattle.math_algebra.specs.Finite.{Finite}
use Rattle.math_ideals.specs.Product.{Common}
use Rattle.math_generators.specs.Generators.{Generates}

module _ {A : Type 0} (K : Field A) where
  open Series (F K) use {add as ◌+◌, mul as ◌*◌, neg as -◌, one as 𝟙}

  infixl 6 ◌+◌
  infixl 7 ◌*◌
  infix 8 -◌
  abbrev P[x] : Type 0
  P[x] = Px K

  module _ {g : ℕ} {D : P[x]} (o : Root K g D) {Q₁ Q₂ T S : P[x]} (c : Common K Q₁ Q₂ T S) where
    -- S x = x₁ x₂ + D y₁ y₂ and S y = x₁ y₂ + x₂ y₁, and (x, y) generates the product. Where the two are big,
    -- so is (x, y), and deg x, which is g + 1 and the height, is their sum less deg S
    pub record Multiplied (P x₁ y₁ x₂ y₂ : P[x]) : Type 0 where
      pub x : P[x]
      pub y : P[x]
      pub x_finite : Finite K x
      pub y_finite : Finite K y
      pub x_is : S * x ≡ x₁ * x₂ + D * y₁ * y₂
      pub y_is : S * y ≡ x₁ * y₂ + x₂ * y₁
      pub generates : Generates K D x y (c.first.by * c.second.by) P
      pub big : (b₁ : Big K o x₁ y₁) (b₂ : Big K o x₂ y₂) → (b : Big K o x y) × (b.height +ₙ c.σ ≡ suc g +ₙ (b₁.height +ₙ b₂.height))
