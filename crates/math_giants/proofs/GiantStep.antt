-- The proofs of specs/GiantStep.
use Rattle.std.specs.Prelude.{ℕ, ◌+◌ as ◌+ₙ◌, ◌-◌ as ◌-ₙ◌, ◌≤◌, ◌≡◌, [], ◌∷◌}
use Rattle.std.proofs.Common.{arith}
use Rattle.math_ring.specs.Ring.{CRing}
use Rattle.math_ring.specs.Identity.{ring_from, times, plus, quote}
use Rattle.math_ring.specs.Series.{Series}
use Rattle.math_algebra.specs.Field.{Field}
use Rattle.math_algebra.specs.Polynomial.{F, Px, Deg, deg_path, deg_mul, deg_unique, monic_deg}
use Rattle.math_surd.specs.Root.{Root}
use Rattle.math_ideals.specs.Steps.{sum_of_degrees, shift_most}
use Rattle.math_giants.specs.GiantStep as defs

module _ {A : Type 0} (K : Field A) where
  open Series (F K) use {add as ◌+◌, mul as ◌*◌, neg as -◌, one as 𝟙}

  infixl 6 ◌+◌ ◌-◌
  infixl 7 ◌*◌
  infix 8 -◌
  abbrev P[x] : Type 0
  P[x] = Px K

  abbrev R[x] : CRing P[x]
  R[x] = Series (F K)

  abbrev ◌-◌ : P[x] → P[x] → P[x]
  a - b = a + (- b)

  abbrev GiantStep : {g : ℕ} → {D : P[x]} → (o : Root K g D) → (Q₁ P₁ Q₂ P₂ : P[x]) → Type 0
  GiantStep = defs.GiantStep K

  module _ {g : ℕ} {D : P[x]} {o : Root K g D} {Q₁ P₁ Q₂ P₂ : P[x]} (G : GiantStep o Q₁ P₁ Q₂ P₂) where
    -- after k steps f = deg Q_k - deg Q_0 + (sum of deg a_j, j from 1 to k) - deg S is minus this
    abbrev drop_at : ℕ → ℕ
    drop_at k = (G.steps.κ 0 +ₙ G.common.σ) -ₙ (G.steps.κ k +ₙ sum_of_degrees K G.steps k)

    abbrev drop : ℕ
    drop = defs.drop K G

    -- f ≤ 0: nothing is cut off in the difference
    pub drop_sum : drop +ₙ (G.steps.κ G.turns +ₙ sum_of_degrees K G.steps G.turns) ≡ G.steps.κ 0 +ₙ G.common.σ
    drop_sum = let l = shift_most K G.steps G.turns G.above in omega arith

    -- the degree of Q₁ Q₂ is that of Q S²
    product_degree : {m n : ℕ} → Deg K Q₁ m → Deg K Q₂ n → G.steps.κ 0 +ₙ (G.common.σ +ₙ G.common.σ) ≡ m +ₙ n
    product_degree {m} {n} h h' = deg_unique K (deg_path K _ same (deg_mul K (G.steps.Q 0) (G.S * G.S) _ _ (G.steps.deg 0) (deg_mul K G.S G.S _ _ (monic_deg K G.common.monic) (monic_deg K G.common.monic)))) (deg_mul K Q₁ Q₂ m n h h')
      where
        same : G.steps.Q 0 * (G.S * G.S) ≡ Q₁ * Q₂
        same = ring_from R[x] (G.steps.Q 0 ∷ G.S ∷ G.common.first.by ∷ G.common.second.by ∷ Q₁ ∷ Q₂ ∷ []) (plus R[x] (times R[x] (G.S * G.S) G.start) (plus R[x] (times R[x] (- (G.S * G.common.second.by)) G.common.first.is) (times R[x] (- Q₁) G.common.second.is))) (search quote depth 40 fits 9999) tt

    -- f ≥ -2 g where the two are reduced
    pub drop_most : {m n : ℕ} → Deg K Q₁ m → Deg K Q₂ n → m ≤ g → n ≤ g → drop ≤ g +ₙ g
    drop_most h h' l l' = let e = product_degree h h' in omega arith
