-- The place of the conjugate of an ideal of the walk. Let Q be constant at m, and let R be the distance of m.
-- The conjugate of the ideal of state j, the same Q and P negated modulo Q, is the ideal of state m - j,
-- whose distance is R less the distance of j plus deg Q_j. `conjugates` says so. Carried by the symmetry and
-- by Q_j | P_j + P_{j+1}.
use Rattle.std.specs.Prelude.{ℕ, ◌+◌ as ◌+ₙ◌, ◌-◌ as ◌-ₙ◌, ◌≤◌, ◌<◌, ◌≡◌}
use Rattle.math_ring.specs.Series.{Series}
use Rattle.math_algebra.specs.Field.{Field}
use Rattle.math_algebra.specs.Polynomial.{F, Px}
use Rattle.math_surd.specs.Root.{Root}
use Rattle.math_surd.specs.Walk.{Walk}
use Rattle.math_surd.specs.Ideal.{SameIdeal}
use Rattle.math_surd.specs.Same.{Same}
use Rattle.math_surd.specs.Distance.{distance}

module _ {A : Type 0} (K : Field A) where
  open Series (F K) use {add as ◌+◌, neg as -◌, one as 𝟙}

  infixl 6 ◌+◌ ◌-◌
  infix 8 -◌
  abbrev P[x] : Type 0
  P[x] = Px K

  abbrev ◌-◌ : P[x] → P[x] → P[x]
  a - b = a + (- b)

  module _ {g : ℕ} {D : P[x]} {o : Root K g D} (w : Walk K o) where
    open w use {Q, P, κ}

    -- the ideal of state i is the conjugate of that of state j
    abbrev pub Conjugate : ℕ → ℕ → Type 0
    Conjugate i j = SameIdeal K (Q i) (P i) (Q j) (- P j)

    -- R less the distance of j plus deg Q_j, where R is the distance of m
    abbrev pub conjugate_distance : ℕ → ℕ → ℕ
    conjugate_distance m j = (distance K w m -ₙ distance K w j) +ₙ κ j

    -- For j from 0 to m: state m - j is the conjugate of state j, is at that distance, and is the only state
    -- there. The distance is R for j = 0 and below R for the others; state m, at R, has the ideal of state 0,
    -- which is its own conjugate
    pub record Conjugates (m : ℕ) : Type 0 where
      pub conjugate : (j : ℕ) → j ≤ m → Conjugate (m -ₙ j) j
      pub distance_is : (j : ℕ) → j ≤ m → distance K w (m -ₙ j) ≡ conjugate_distance m j
      pub only : (i j : ℕ) → j ≤ m → distance K w i ≡ conjugate_distance m j → i ≡ m -ₙ j
      pub first_distance : conjugate_distance m 0 ≡ distance K w m
      pub later_distance : (j : ℕ) → 0 < j → j ≤ m → conjugate_distance m j < distance K w m
      pub round : Same K w m 0
      pub first : Conjugate 0 0
