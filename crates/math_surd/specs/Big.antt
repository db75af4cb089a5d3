-- Pairs (x, y) that are near to y √D: x - d y has a smaller degree than y. A pair with a small norm is near,
-- or becomes so by the other sign of y (carried by the product (x - d y)(x + d y), which is small, while the
-- factors' difference 2 d y is not).
use Rattle.std.specs.Prelude.{ℕ}
use Rattle.math_ring.specs.Series.{Series}
use Rattle.math_algebra.specs.Field.{Field}
use Rattle.math_algebra.specs.Polynomial.{F, Px, ◌≺◌ as Low, Deg}
use Rattle.math_surd.specs.Root.{Root}

module _ {A : Type 0} (K : Field A) where
  open Series (F K) use {add as ◌+◌, mul as ◌*◌, neg as -◌, zer as 𝟘}

  infixl 6 ◌+◌ ◌-◌
  infixl 7 ◌*◌
  infix 8 -◌
  infix 4 ◌≺◌
  abbrev P[x] : Type 0
  P[x] = Px K

  abbrev ◌-◌ : P[x] → P[x] → P[x]
  a - b = a + (- b)

  abbrev ◌≺◌ : P[x] → ℕ → Type 0
  ◌≺◌ = Low K

  module _ {g : ℕ} {D : P[x]} (o : Root K g D) where
    pub record Big (x y : P[x]) : Type 0 where
      pub height : ℕ
      pub y_deg : Deg K y height
      pub near : x - o.d * y ≺ height
