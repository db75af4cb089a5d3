-- Baby steps and giant steps. The stock is the ideals of the indices 0 to k; landing 0 is the ideal of index
-- k, and each later landing is the giant step of the one before with that ideal. The regulator R is found by
-- the stock, as the distance of its first constant Q past index 0, or else by the first later landing in the
-- stock, as its distance less the stocked one. By J jumps R is found exactly if it is at most the distance of
-- landing J; if it is not, no solution of X² - D Y² = c has a degree up to that distance. The statement is
-- `Search`, its proof `searches`, for g < k. Carried by the period: no jump is longer than the stock, so that
-- some landing comes down in the stock raised by R.
use Rattle.std.specs.Prelude.{ℕ, suc, ◌+◌ as ◌+ₙ◌, ◌≤◌, ◌<◌, ◌≡◌, ◌⊎◌}
use Rattle.math_algebra.specs.Field.{Field}
use Rattle.math_algebra.specs.Polynomial.{Px, Deg}
use Rattle.math_surd.specs.Root.{Root}
use Rattle.math_surd.specs.Walk.{Walk}
use Rattle.math_surd.specs.Distance.{distance}
use Rattle.math_surd.specs.QuasiPeriod.{QuasiPeriod, NoneConstant}
use Rattle.math_surd.specs.LeastDegree.{Solution}
use Rattle.math_surd.specs.Same.{Same}

-- what is asked of the index k: the stock reaches past the index g
abbrev pub Reaches : ℕ → ℕ → Type 0
Reaches g k = g < k

module _ {A : Type 0} (K : Field A) {g : ℕ} {D : Px K} {o : Root K g D} (w : Walk K o) where
  -- landing j is the ideal of index `at j`; a jump adds the distance of index k and f, which is minus `drop j`
  pub record Landings (k : ℕ) : Type 0 where
    pub at : ℕ → ℕ
    pub drop : ℕ → ℕ
    pub start : at 0 ≡ k
    pub jump : (j : ℕ) → distance K w (at (suc j)) +ₙ drop j ≡ distance K w (at j) +ₙ distance K w k
    pub few : (j : ℕ) → drop j ≤ g +ₙ g

  module _ {k : ℕ} (l : Landings k) where
    open l use {at, drop, start, jump, few}

    -- the distance of landing j
    abbrev pub reach : ℕ → ℕ
    reach j = distance K w (at j)

    -- landing j is in the stock, at the index i
    pub record Stocked (j i : ℕ) : Type 0 where
      pub inside : i ≤ k
      pub same : Same K w (at j) i

    -- R by the stock: m is its first index past 0 with a constant Q
    pub record ByStock (R : ℕ) : Type 0 where
      pub m : ℕ
      pub inside : m ≤ k
      pub first : QuasiPeriod K w m
      pub is : R ≡ distance K w m

    -- R by landing j + 1: the stock has no constant Q past index 0, and this is the first later landing in
    -- the stock
    pub record ByLanding (j R : ℕ) : Type 0 where
      pub none : NoneConstant K w k
      pub place : ℕ
      pub here : Stocked (suc j) place
      pub earlier : (j' i : ℕ) → j' < j → Stocked (suc j') i → ⊥
      pub is : R +ₙ distance K w place ≡ reach (suc j)

    -- R is found by at most J jumps
    abbrev pub Found : ℕ → ℕ → Type 0
    Found J R = ByStock R ⊎ ((j : ℕ) × (j < J) × ByLanding j R)

    -- nothing is found by J jumps
    pub record Spent (J : ℕ) : Type 0 where
      pub none : NoneConstant K w k
      pub no_landing : (j i : ℕ) → j < J → Stocked (suc j) i → ⊥

    -- What is found is the regulator, and it is found exactly if it is at most the distance of landing J,
    -- which for J = 0 is that of index k: `found_right` and `found_whenever`. Then some solution has the
    -- degree R; if nothing is found, every solution has a degree above the distance of landing J. Each jump
    -- adds at least 1 and at most the distance of index k
    pub record Search (J : ℕ) : Type 0 where
      pub found_right : (R : ℕ) → Found J R → (m : ℕ) × QuasiPeriod K w m × (R ≡ distance K w m) × (R ≤ reach J)
      pub found_whenever : (m : ℕ) → QuasiPeriod K w m → distance K w m ≤ reach J → Found J (distance K w m)
      pub decided : ((R : ℕ) × Found J R) ⊎ Spent J
      pub found_solves : (R : ℕ) → Found J R → (X Y : Px K) × Solution K D X Y × Deg K X R
      pub spent_above : Spent J → {X Y : Px K} → Solution K D X Y → (n : ℕ) × Deg K X n × (reach J < n)
      pub rises : (j : ℕ) → reach j < reach (suc j)
      pub short : (j : ℕ) → reach (suc j) ≤ reach j +ₙ distance K w k
      pub first_reach : reach 0 ≡ distance K w k
