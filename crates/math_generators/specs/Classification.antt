-- A reduced ideal with a big generator is an ideal of the endless walk, and the degree of the generator is
-- its distance there: `classify`. By the descent the generator is λ times a convergent; λ divides Q and y,
-- which have no common factor, so that λ is a constant.
use Rattle.std.specs.Prelude.{ℕ, suc}
use Rattle.math_ring.specs.Series.{Series}
use Rattle.math_algebra.specs.Field.{Field}
use Rattle.math_algebra.specs.Polynomial.{F, Px, Deg}
use Rattle.math_surd.specs.Root.{Root}
use Rattle.math_surd.specs.Step.{State}
use Rattle.math_surd.specs.Walk.{Walk}
use Rattle.math_surd.specs.Distance.{distance}
use Rattle.math_surd.specs.Descent.{Multiple}
use Rattle.math_surd.specs.Ideal.{SameIdeal}
use Rattle.math_algebra.specs.Finite.{Finite}
use Rattle.math_generators.specs.Generators.{Generates}

module _ {A : Type 0} (K : Field A) where
  open Series (F K) use {add as ◌+◌, mul as ◌*◌, neg as -◌, one as 𝟙}

  infixl 6 ◌+◌ ◌-◌
  infixl 7 ◌*◌
  infix 8 -◌
  abbrev P[x] : Type 0
  P[x] = Px K

  abbrev ◌-◌ : P[x] → P[x] → P[x]
  a - b = a + (- b)

  module _ {g : ℕ} {D : P[x]} {o : Root K g D} (w : Walk K o) where
    -- (Q, P) is the ideal of state at + 1, and deg x is its distance
    pub record Located (x Q P : P[x]) : Type 0 where
      pub at : ℕ
      pub same : SameIdeal K Q P (w.Q (suc at)) (w.P (suc at))
      pub x_deg : Deg K x (distance K w (suc at))

    -- ---- the proof
    module _ {x y Q C P : P[x]} (st : State K D Q C P) (h : Generates K D x y Q P) (y_finite : Finite K y) (m : Multiple K w x y) where
      abbrev i : ℕ
      i = suc m.at

      -- Q divides y (P - P i), and so P - P i
      unfoldable pub shift : P[x]
      shift = P - w.P i
