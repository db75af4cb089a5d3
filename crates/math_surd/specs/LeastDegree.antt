-- The theorem a reader opens: the least degree of X in X² - D Y² = c (Y ≠ 0, c a constant other than 0), read
-- off the continued fraction of √D. `spent`: while no Q 1 .. Q b is constant, X has a degree above that of
-- the convergent p of index b - 1. `found`, `reached`, `only`: let m be the quasi-period, the first index
-- from 1 on at which Q is constant, and R the degree of the convergent p of index m - 1. No solution has a
-- degree below R; this convergent is a solution; a solution of degree R is a constant multiple of it, up to
-- the sign of Y. All follow from `Units`: a solution is a constant multiple of a convergent at which Q is
-- constant, and the degrees rise strictly. Convergents stand two places up: p (m + 1) has the index m - 1,
-- and distance m is its degree.
use Rattle.std.specs.Prelude.{ℕ, ◌≡◌}
use Rattle.math_ring.specs.Series.{Series, con}
use Rattle.math_algebra.specs.Field.{Field}
use Rattle.math_algebra.specs.Polynomial.{F, Px, ◌≺◌ as Low}

module _ {A : Type 0} (K : Field A) where
  open Series (F K) use {add as ◌+◌, mul as ◌*◌, neg as -◌, zer as 𝟘}

  infixl 6 ◌+◌ ◌-◌
  infixl 7 ◌*◌
  infix 8 -◌
  infix 4 ◌≺◌
  abbrev P[x] : Type 0
  P[x] = Px K

  abbrev ◌-◌ : P[x] → P[x] → P[x]
  a - b = a + (- b)

  abbrev ◌≺◌ : P[x] → ℕ → Type 0
  ◌≺◌ = Low K

  pub record Solution (D X Y : P[x]) : Type 0 where
    pub size : ℕ
    pub X_low : X ≺ size
    pub Y_low : Y ≺ size
    pub Y_not_zero : Y ≡ 𝟘 → ⊥
    pub c : A
    pub c_not_zero : c ≡ (F K).zer → ⊥
    pub norm : X * X - D * (Y * Y) ≡ con (F K) c
