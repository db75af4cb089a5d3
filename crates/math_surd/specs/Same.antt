-- Two states of one walk with the same ideal: then so have the states after them, and the states before them.
-- Forward a step sees only the ideal; backward rigidity serves again, since P is near to d with respect to
-- its own Q too.
use Rattle.std.specs.Prelude.{ℕ}
use Rattle.math_ring.specs.Series.{Series}
use Rattle.math_algebra.specs.Field.{Field}
use Rattle.math_algebra.specs.Polynomial.{F, Px}
use Rattle.math_surd.specs.Root.{Root}
use Rattle.math_surd.specs.Walk.{Walk}
use Rattle.math_surd.specs.Ideal.{SameIdeal}

module _ {A : Type 0} (K : Field A) where
  open Series (F K) use {add as ◌+◌, mul as ◌*◌, neg as -◌, one as 𝟙}

  infixl 6 ◌+◌
  infixl 7 ◌*◌
  infix 8 -◌
  abbrev P[x] : Type 0
  P[x] = Px K

  module _ {g : ℕ} {D : P[x]} {o : Root K g D} (w : Walk K o) where
    open w use {Q, P, a, κ, size, Q_deg, a_low, near}

    -- the states i and j have the same ideal
    abbrev pub Same : ℕ → ℕ → Type 0
    Same i j = SameIdeal K (Q i) (P i) (Q j) (P j)
