-- Reflection: where P_i = P_{j+1} and Q_i is a constant times Q_j, the same holds of i + 1 and j - 1, and so
-- of all places from there, forward in i and backward in j (`reflect_add`). Carried by rigidity, as the step
-- is: P_{i+1} and P_j are congruent modulo Q_j and both near to d.
use Rattle.std.specs.Prelude.{ℕ, suc, ◌≡◌}
use Rattle.math_ring.specs.Series.{Series}
use Rattle.math_algebra.specs.Field.{Field}
use Rattle.math_algebra.specs.Polynomial.{F, Px}
use Rattle.math_algebra.specs.Associate.{Associate}
use Rattle.math_surd.specs.Root.{Root}
use Rattle.math_surd.specs.Walk.{Walk}

module _ {A : Type 0} (K : Field A) where
  open Series (F K) use {add as ◌+◌, mul as ◌*◌, neg as -◌, one as 𝟙}

  infixl 6 ◌+◌
  infixl 7 ◌*◌
  infix 8 -◌
  abbrev P[x] : Type 0
  P[x] = Px K

  module _ {g : ℕ} {D : P[x]} {o : Root K g D} (w : Walk K o) where
    open w use {Q, P, κ, Q_deg, near}

    pub record Reflect (i j : ℕ) : Type 0 where
      pub P_is : P i ≡ P (suc j)
      pub ratio : Associate K (Q i) (Q j)
