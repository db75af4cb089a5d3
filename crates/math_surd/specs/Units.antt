-- Units: a pair (X, Y) with Y ≠ 0 whose norm X² - D Y² is a constant is a constant multiple of a convergent,
-- up to the sign of Y, and Q is constant there. Carried by the descent: (X, Y) is λ times a convergent, and
-- the norm is λ² Q up to a sign.
use Rattle.std.specs.Prelude.{ℕ, suc, ◌<◌, ◌≡◌, ◌⊎◌}
use Rattle.math_ring.specs.Series.{Series, con}
use Rattle.math_algebra.specs.Field.{Field}
use Rattle.math_algebra.specs.Polynomial.{F, Px}
use Rattle.math_surd.specs.Root.{Root}
use Rattle.math_surd.specs.Walk.{Walk}
use Rattle.math_surd.specs.Convergents as convergents

module _ {A : Type 0} (K : Field A) where
  open Series (F K) use {add as ◌+◌, mul as ◌*◌, neg as -◌, one as 𝟙}

  infixl 6 ◌+◌ ◌-◌
  infixl 7 ◌*◌
  infix 8 -◌
  abbrev P[x] : Type 0
  P[x] = Px K

  abbrev ◌-◌ : P[x] → P[x] → P[x]
  a - b = a + (- b)

  module _ {g : ℕ} {D : P[x]} {o : Root K g D} (w : Walk K o) where
    open w use {Q, κ, Q_deg}

    abbrev p : ℕ → P[x]
    p = convergents.p K w

    abbrev s : ℕ → P[x]
    s = convergents.s K w

    -- (X, Y) is the convergent of index m - 1, up to a constant and the sign of Y
    pub record Scaled (m : ℕ) (X Y : P[x]) : Type 0 where
      pub by : A
      pub by_not_zero : by ≡ (F K).zer → ⊥
      pub X_is : X ≡ con (F K) by * p (suc m)
      pub Y_is : (Y ≡ con (F K) by * s (suc m)) ⊎ (Y ≡ - (con (F K) by * s (suc m)))

    -- and Q is constant there
    pub record Unit (X Y : P[x]) : Type 0 where
      pub m : ℕ
      pub positive : 0 < m
      pub constant : κ m ≡ 0
      pub scaled : Scaled m X Y
