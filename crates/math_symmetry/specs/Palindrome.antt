-- The symmetry of the walk up to an index m at which Q is constant: read from the end, it has the same P and,
-- up to constant factors, the same Q. `symmetric` says so, and what follows of the distances. Carried by
-- `Reflect` from the ends: P_1 = d = P_m, and Q_1 is a constant times Q_{m-1}.
use Rattle.std.specs.Prelude.{ℕ, suc, ◌+◌ as ◌+ₙ◌, ◌-◌ as ◌-ₙ◌, ◌≤◌, ◌<◌, ◌≡◌}
use Rattle.math_ring.specs.Series.{Series}
use Rattle.math_algebra.specs.Field.{Field}
use Rattle.math_algebra.specs.Polynomial.{F, Px}
use Rattle.math_algebra.specs.Associate.{Associate}
use Rattle.math_surd.specs.Root.{Root}
use Rattle.math_surd.specs.Walk.{Walk}
use Rattle.math_surd.specs.Distance.{distance}

module _ {A : Type 0} (K : Field A) where
  open Series (F K) use {add as ◌+◌, mul as ◌*◌, neg as -◌, one as 𝟙}

  infixl 6 ◌+◌
  infixl 7 ◌*◌
  infix 8 -◌
  abbrev P[x] : Type 0
  P[x] = Px K

  module _ {g : ℕ} {D : P[x]} {o : Root K g D} (w : Walk K o) where
    open w use {Q, P, κ, Q_deg, reduced}

    -- P_{1+j} = P_{m-j}, Q_{1+j} is a constant times Q_{m-1-j}, and the distance of m - i is R less that of i
    -- plus deg Q_i, where R is the distance of m
    pub record Symmetric (m : ℕ) : Type 0 where
      pub P_is : (j : ℕ) → j < m → P (suc j) ≡ P (m -ₙ j)
      pub Q_is : (j : ℕ) → j < m → Associate K (Q (suc j)) (Q (m -ₙ suc j))
      pub distance_is : (i : ℕ) → i ≤ m → distance K w (m -ₙ i) ≡ (distance K w m -ₙ distance K w i) +ₙ κ i
