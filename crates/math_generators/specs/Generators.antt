-- Generators of ideals: (x, y) generates the ideal of (Q, P) if Q divides x - y P and the norm x² - D y² is a
-- constant times Q. A generator sees only the ideal; Q and y have no common factor; and the convergents
-- generate the ideals of the walk, by their linear identity with their norm.
use Rattle.std.specs.Prelude.{ℕ}
use Rattle.math_ring.specs.Series.{Series}
use Rattle.math_algebra.specs.Field.{Field}
use Rattle.math_algebra.specs.Polynomial.{F, Px}
use Rattle.math_algebra.specs.Divides.{Divides}
use Rattle.math_algebra.specs.Associate.{Associate}
use Rattle.math_surd.specs.Root.{Root}
use Rattle.math_surd.specs.Step.{State}
use Rattle.math_surd.specs.Walk.{Walk}
use Rattle.math_surd.specs.Convergents as convergents
use Rattle.math_algebra.specs.Finite.{Finite}

module _ {A : Type 0} (K : Field A) where
  open Series (F K) use {add as ◌+◌, mul as ◌*◌, neg as -◌, one as 𝟙}

  infixl 6 ◌+◌ ◌-◌
  infixl 7 ◌*◌
  infix 8 -◌
  abbrev P[x] : Type 0
  P[x] = Px K

  abbrev ◌-◌ : P[x] → P[x] → P[x]
  a - b = a + (- b)

  pub record Generates (D x y Q P : P[x]) : Type 0 where
    pub divides : Divides K Q (x - y * P)
    pub norm : Associate K (x * x - D * (y * y)) Q

  -- ---- Q and y have no common factor: a combination of them is the constant of the norm
  module _ {D x y Q C P : P[x]} (s : State K D Q C P) (h : Generates D x y Q P) (y_finite : Finite K y) where
    abbrev t : P[x]
    t = h.divides.by

    abbrev pub cofactor : P[x]
    cofactor = P * t + P * t - C * y

  -- ---- the convergents
  module _ {g : ℕ} {D : P[x]} {o : Root K g D} (w : Walk K o) where
    open w use {Q, P}

    abbrev s : ℕ → P[x]
    s = convergents.s K w
