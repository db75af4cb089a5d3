-- Ideals as pairs: (Q, P) up to a constant factor of Q and a multiple of Q in P; and that a step sees only
-- the ideal. Carried by rigidity: the next P is the one P' with Q | P + P' and P' - d of smaller degree than
-- Q.
use Rattle.std.specs.Prelude.{ℕ, ◌≡◌}
use Rattle.math_ring.specs.Series.{Series}
use Rattle.math_algebra.specs.Field.{Field}
use Rattle.math_algebra.specs.Polynomial.{F, Px, ◌≺◌ as Low, Deg}
use Rattle.math_algebra.specs.Divides.{Divides}
use Rattle.math_algebra.specs.Associate.{Associate}
use Rattle.math_surd.specs.Root.{Root}

module _ {A : Type 0} (K : Field A) where
  open Series (F K) use {add as ◌+◌, mul as ◌*◌, neg as -◌, zer as 𝟘, one as 𝟙}

  infixl 6 ◌+◌ ◌-◌
  infixl 7 ◌*◌
  infix 8 -◌
  infix 4 ◌≺◌
  abbrev P[x] : Type 0
  P[x] = Px K

  abbrev ◌-◌ : P[x] → P[x] → P[x]
  a - b = a + (- b)

  abbrev ◌≺◌ : P[x] → ℕ → Type 0
  ◌≺◌ = Low K

  pub record SameIdeal (Q P Q' P' : P[x]) : Type 0 where
    pub ratio : Associate K Q Q'
    pub congruent : Divides K Q' (P - P')

  -- ---- the step as a relation
  module _ {g : ℕ} {D : P[x]} (o : Root K g D) where
    -- (Q', P') follows (Q, P)
    pub record Follows (Q P Q' P' : P[x]) : Type 0 where
      pub κ : ℕ
      pub deg : Deg K Q κ
      pub sum : Divides K Q (P + P')
      pub near : P' - o.d ≺ κ
      pub norm : D ≡ P' * P' + Q' * Q
      pub size : ℕ
      pub low : Q' ≺ size
