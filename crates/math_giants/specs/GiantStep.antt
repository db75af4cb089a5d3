-- The giant step of two ideals: their product, and steps from it to the first reduced ideal, as a record. Its
-- f is minus a number, `drop`, of at most 2 g for reduced ideals. The product is an ideal again, and the two
-- may be exchanged.
use Rattle.std.specs.Prelude.{ℕ, ◌+◌ as ◌+ₙ◌, ◌-◌ as ◌-ₙ◌, ◌≤◌, ◌≡◌, [], ◌∷◌}
use Rattle.std.proofs.Common.{arith, sym, ◌∙◌, subst}
use Rattle.math_ring.specs.Ring.{CRing}
use Rattle.math_ring.specs.Identity.{ring_from, times, quote}
use Rattle.math_ring.specs.Series.{Series}
use Rattle.math_algebra.specs.Field.{Field}
use Rattle.math_algebra.specs.Polynomial.{F, Px, Deg, low_up, deg_path}
use Rattle.math_algebra.specs.Divides.{divides_path}
use Rattle.math_surd.specs.Root.{Root}
use Rattle.math_surd.specs.Step.{State}
use Rattle.math_algebra.specs.Finite.{Finite, finite_monic}
use Rattle.math_ideals.specs.Product.{Common, Meets}
use Rattle.math_ideals.proofs.Product.{meets_norm}
use Rattle.math_ideals.specs.Steps.{Steps, Above, sum_of_degrees}

module _ {A : Type 0} (K : Field A) where
  open Series (F K) use {add as ◌+◌, mul as ◌*◌, neg as -◌, one as 𝟙}

  infixl 6 ◌+◌
  infixl 7 ◌*◌
  infix 8 -◌
  abbrev P[x] : Type 0
  P[x] = Px K

  abbrev R[x] : CRing P[x]
  R[x] = Series (F K)

  -- S, the product as the start of steps, and the first reduced of them
  pub record GiantStep {g : ℕ} {D : P[x]} (o : Root K g D) (Q₁ P₁ Q₂ P₂ : P[x]) : Type 0 where
    pub S : P[x]
    pub common : Common K Q₁ Q₂ (P₁ + P₂) S
    pub steps : Steps K o
    pub start : steps.Q 0 ≡ common.first.by * common.second.by
    pub meets : Meets K D P₁ P₂ S common.first.by common.second.by (steps.P 0)
    pub start_finite : Finite K (steps.P 0)
    pub turns : ℕ
    pub reduced : steps.κ turns ≤ g
    pub above : Above K steps turns

  -- ---- the product of ideals is an ideal
  -- the cofactor of Q in D - P²
  abbrev pub product_C : {D P₁ P₂ S q₁ q₂ P : P[x]} → Finite K S → Meets K D P₁ P₂ S q₁ q₂ P → P[x]
  product_C s m = (meets_norm K s m).by

  pub product_state : {D P₁ P₂ S q₁ q₂ P : P[x]} (s : Finite K S) (m : Meets K D P₁ P₂ S q₁ q₂ P) → Finite K P → (n : ℕ) → Deg K (q₁ * q₂) n → State K D (q₁ * q₂) (product_C s m) P
  product_state {D} {P₁} {P₂} {S} {q₁} {q₂} {P} s m f n h = record {
    κ = n;
    deg = h;
    norm = ring_from R[x] (D ∷ P ∷ q₁ ∷ q₂ ∷ product_C s m ∷ []) (times R[x] 𝟙 (meets_norm K s m).is) (search quote depth 40 fits 9999) tt;
    size = (meets_norm K s m).size +ₙ f.size;
    C_low = low_up K (product_C s m) (omega arith) (meets_norm K s m).low;
    P_low = low_up K P (omega arith) f.low;
  }

  module _ {g : ℕ} {D : P[x]} {o : Root K g D} {Q₁ P₁ Q₂ P₂ : P[x]} (G : GiantStep o Q₁ P₁ Q₂ P₂) where
    -- ---- the ideal it ends at, and f
    abbrev pub giant_Q : P[x]
    giant_Q = G.steps.Q G.turns

    abbrev pub giant_P : P[x]
    giant_P = G.steps.P G.turns

    -- after k steps f = deg Q_k - deg Q_0 + (sum of deg a_j, j from 1 to k) - deg S is minus this
    abbrev drop_at : ℕ → ℕ
    drop_at k = (G.steps.κ 0 +ₙ G.common.σ) -ₙ (G.steps.κ k +ₙ sum_of_degrees K G.steps k)

    abbrev pub drop : ℕ
    drop = drop_at G.turns

    pub start_state : State K D (G.steps.Q 0) (product_C (finite_monic K G.common.monic) G.meets) (G.steps.P 0)
    start_state = subst (λ (q : P[x]). State K D q (product_C (finite_monic K G.common.monic) G.meets) (G.steps.P 0)) (sym G.start) (product_state (finite_monic K G.common.monic) G.meets G.start_finite (G.steps.κ 0) (deg_path K _ G.start (G.steps.deg 0)))

  -- ---- the two in the other order
  abbrev pub common_swap : {Q₁ Q₂ S : P[x]} (P₁ P₂ : P[x]) → Common K Q₁ Q₂ (P₁ + P₂) S → Common K Q₂ Q₁ (P₂ + P₁) S
  common_swap P₁ P₂ c = record { σ = c.σ; monic = c.monic; first = c.second; second = c.first; sum = divides_path K (R[x].add_comm P₁ P₂) c.sum }

  pub meets_swap : {D P₁ P₂ S q₁ q₂ P : P[x]} → Meets K D P₁ P₂ S q₁ q₂ P → Meets K D P₂ P₁ S q₂ q₁ P
  meets_swap {D} {P₁} {P₂} {S} {q₁} {q₂} {P} m = record {
    first = m.second;
    second = m.first;
    cross = record { by = m.cross.by; size = m.cross.size; low = m.cross.low; is = ring_from R[x] (D ∷ P₁ ∷ P₂ ∷ S ∷ q₁ ∷ q₂ ∷ P ∷ m.cross.by ∷ []) (times R[x] 𝟙 m.cross.is) (search quote depth 40 fits 9999) tt };
  }

  abbrev pub giant_swap : {g : ℕ} {D : P[x]} {o : Root K g D} {Q₁ P₁ Q₂ P₂ : P[x]} → GiantStep o Q₁ P₁ Q₂ P₂ → GiantStep o Q₂ P₂ Q₁ P₁
  giant_swap {P₁ = P₁} {P₂ = P₂} G = record { S = G.S; common = common_swap P₁ P₂ G.common; steps = G.steps; start = G.start ∙ R[x].mul_comm G.common.first.by G.common.second.by; meets = meets_swap G.meets; start_finite = G.start_finite; turns = G.turns; reduced = G.reduced; above = G.above }
