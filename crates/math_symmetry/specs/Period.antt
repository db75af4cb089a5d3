-- The period. From an index m on at which Q is constant the walk repeats: k times round, state k m + i has
-- the ideal of state i and, from the index 1 on, its P; and the distances are raised by k R, where R is the
-- distance of m. `repeats` says so. Carried by `Same`: the states m and 0 have the same ideal, and a step
-- sees only the ideal.
use Rattle.std.specs.Prelude.{ℕ, suc, ◌+◌ as ◌+ₙ◌, ◌*◌ as ◌*ₙ◌, ◌<◌, ◌≡◌}
use Rattle.math_ring.specs.Series.{Series}
use Rattle.math_algebra.specs.Field.{Field}
use Rattle.math_algebra.specs.Polynomial.{F, Px, Deg}
use Rattle.math_surd.specs.Root.{Root}
use Rattle.math_surd.specs.Walk.{Walk}
use Rattle.math_surd.specs.Same.{Same}
use Rattle.math_surd.specs.Convergents as convergents
use Rattle.math_surd.specs.Distance.{distance}

module _ {A : Type 0} (K : Field A) where
  open Series (F K) use {add as ◌+◌, neg as -◌, one as 𝟙}

  infixl 6 ◌+◌
  infix 8 -◌
  abbrev P[x] : Type 0
  P[x] = Px K

  module _ {g : ℕ} {D : P[x]} {o : Root K g D} (w : Walk K o) where
    open w use {Q, P, κ, Q_first, Q_deg, near}

    -- p i is the convergent of index i - 2
    abbrev p : ℕ → P[x]
    p = convergents.p K w

    -- k times round: the same ideals and, from the index 1 on, the same P, with distances, which are the
    -- degrees of the convergents p, raised by k times that of m
    pub record Repeats (m : ℕ) : Type 0 where
      pub ideal : (k i : ℕ) → Same K w (k *ₙ m +ₙ i) i
      pub P_is : (k i : ℕ) → P (k *ₙ m +ₙ suc i) ≡ P (suc i)
      pub P_end : 0 < m → P m ≡ o.d
      pub distance_is : (k i : ℕ) → distance K w (k *ₙ m +ₙ i) ≡ k *ₙ distance K w m +ₙ distance K w i
      pub p_degree : (k i : ℕ) → Deg K (p (suc (k *ₙ m +ₙ i))) (k *ₙ distance K w m +ₙ distance K w i)
