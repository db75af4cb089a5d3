-- A generator through a step: from (x, y), which generates (Q, P), to (x', y'), which generates the ideal
-- (Q', P') that follows; where (x, y) is big, so is (x', y'). `stepped` says so, with the degrees. Carried by
-- the products (x' + d y') Q and (x' - d y') Q.
use Rattle.std.specs.Prelude.{ℕ, ◌+◌ as ◌+ₙ◌, ◌<◌, ◌≡◌}
use Rattle.math_ring.specs.Series.{Series}
use Rattle.math_algebra.specs.Field.{Field}
use Rattle.math_algebra.specs.Polynomial.{F, Px, Deg}
use Rattle.math_surd.specs.Root.{Root}
use Rattle.math_surd.specs.Big.{Big}
use Rattle.math_surd.specs.Ideal.{Follows}
use Rattle.math_algebra.specs.Finite.{Finite}
use Rattle.math_generators.specs.Generators.{Generates}

module _ {A : Type 0} (K : Field A) where
  open Series (F K) use {add as ◌+◌, mul as ◌*◌, neg as -◌, one as 𝟙}

  infixl 6 ◌+◌
  infixl 7 ◌*◌
  infix 8 -◌
  abbrev P[x] : Type 0
  P[x] = Px K

  module _ {g : ℕ} {D : P[x]} {o : Root K g D} {Q P Q' P' : P[x]} (f : Follows K o Q P Q' P') where
    -- Q y' = x + y P' and Q x' = x P' + y D, and (x', y') generates (Q', P'). Where (x, y) is big, so is (x',
    -- y'), and the degree of y, the height, grows by deg (P' + d) - deg Q; it is enough that deg (P' + d) is
    -- above deg Q', as it is for every step
    pub record Stepped (x y : P[x]) : Type 0 where
      pub x' : P[x]
      pub y' : P[x]
      pub x_finite : Finite K x'
      pub y_finite : Finite K y'
      pub y_is : Q * y' ≡ x + y * P'
      pub x_is : Q * x' ≡ x * P' + y * D
      pub generates : Generates K D x' y' Q' P'
      pub big : {κ' h : ℕ} → Deg K Q' κ' → Deg K (P' + o.d) h → κ' < h → (b : Big K o x y) → (b' : Big K o x' y') × (b'.height +ₙ f.κ ≡ b.height +ₙ h)
