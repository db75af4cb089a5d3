-- The descent: a pair whose norm has degree at most g is a polynomial multiple of a convergent, up to the
-- sign of its second part. Carried by division of the pair through the convergents, each remainder of smaller
-- degree than the last.
use Rattle.std.specs.Prelude.{ℕ, suc, ◌≡◌}
use Rattle.math_ring.specs.Series.{Series}
use Rattle.math_algebra.specs.Field.{Field}
use Rattle.math_algebra.specs.Polynomial.{F, Px, Deg}
use Rattle.math_surd.specs.Root.{Root}
use Rattle.math_surd.specs.Walk.{Walk}
use Rattle.math_surd.specs.Convergents as convergents

module _ {A : Type 0} (K : Field A) where
  open Series (F K) use {add as ◌+◌, mul as ◌*◌, neg as -◌, zer as 𝟘}

  infixl 6 ◌+◌
  infixl 7 ◌*◌
  infix 8 -◌
  abbrev P[x] : Type 0
  P[x] = Px K

  module _ {g : ℕ} {D : P[x]} {o : Root K g D} (w : Walk K o) where
    open w use {Q, P, a, r, κ, size, divide, Q_deg, r_low, a_low, near}

    abbrev p : ℕ → P[x]
    p = convergents.p K w

    abbrev s : ℕ → P[x]
    s = convergents.s K w

    -- ---- (x, y) is a multiple of the convergent of index at
    pub record Multiple (x y : P[x]) : Type 0 where
      pub at : ℕ
      pub by : P[x]
      pub size : ℕ
      pub by_deg : Deg K by size
      pub x_is : x ≡ by * p (suc (suc at))
      pub y_is : y ≡ by * s (suc (suc at))
