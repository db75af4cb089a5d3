-- The convergents p, s of the continued fraction, their norms and linear identities. One induction gives all
-- norms: the form N i (u, v) = Q i u² - 2 P i u v - Q (i - 1) v² is the norm of u p + v s, up to a sign.
use Rattle.std.specs.Prelude.{ℕ, zero, suc, ◌≡◌}
use Rattle.math_ring.specs.Ring.{CRing}
use Rattle.math_ring.specs.Identities.{form}
use Rattle.math_ring.specs.Series.{Series}
use Rattle.math_algebra.specs.Field.{Field}
use Rattle.math_algebra.specs.Polynomial.{F, Px}
use Rattle.math_surd.specs.Root.{Root}
use Rattle.math_surd.specs.Walk.{Walk, prior}

module _ {A : Type 0} (K : Field A) where
  open Series (F K) use {add as ◌+◌, mul as ◌*◌, neg as -◌, zer as 𝟘, one as 𝟙}

  infixl 6 ◌+◌ ◌-◌
  infixl 7 ◌*◌
  infix 8 -◌
  abbrev P[x] : Type 0
  P[x] = Px K

  abbrev R[x] : CRing P[x]
  R[x] = Series (F K)

  abbrev ◌-◌ : P[x] → P[x] → P[x]
  a - b = a + (- b)

  -- ---- (-1)^i
  abbrev pub sign : ℕ → P[x]
  sign zero = 𝟙
  sign (suc i) = - sign i

  module _ {g : ℕ} {D : P[x]} {o : Root K g D} (w : Walk K o) where
    open w use {Q, P, a, Q_first, P_first, P_step, Q_step}

    -- two places up: p i and s i are the convergents of index i - 2
    abbrev pub p : ℕ → P[x]
    p zero = 𝟘
    p (suc zero) = 𝟙
    p (suc (suc i)) = a i * p (suc i) + p i

    abbrev pub s : ℕ → P[x]
    s zero = 𝟙
    s (suc zero) = 𝟘
    s (suc (suc i)) = a i * s (suc i) + s i

    -- ---- norms
    abbrev pub N : ℕ → P[x] → P[x] → P[x]
    N i = form R[x] (Q i) (P i) (prior K D Q i)

    -- ---- linear identities
    pub record Linear (i : ℕ) : Type 0 where
      pub now : p (suc i) ≡ s (suc i) * P i + s i * Q i
      pub back : p i ≡ s (suc i) * prior K D Q i - s i * P i
