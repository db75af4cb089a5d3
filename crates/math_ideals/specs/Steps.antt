-- Steps from an ideal of any degree until the first reduced one, of degree at most g: they end, after at most
-- (g + 1) / 2 turns where the start has degree at most 2 g, and the degrees of Q and of the partial quotients
-- give f, which is at most 0 and at least -2 g. Carried by the fall of the degree in one step.
use Prim.Native.Nat.{ℕ, zero, suc, ◌+◌ as ◌+ₙ◌, ◌-◌ as ◌-ₙ◌, ◌≤◌, ◌<◌}
use native.Mathlib.Omega.{arith}
use Rattle.std.specs.Prelude.{◌≡◌, ◌⊎◌}
use Rattle.std.proofs.Common.{subst, ⊎_elim}
use Rattle.math_ring.specs.Series.{Series}
use Rattle.math_algebra.specs.Field.{Field}
use Rattle.math_algebra.specs.Polynomial.{F, Px, Deg, deg_unique}
use Rattle.math_algebra.specs.Division.{Division}
use Rattle.math_surd.specs.Root.{Root}
use Rattle.math_surd.specs.Ideal.{Follows}
use Rattle.math_ideals.specs.Reduction.{sum_deg, fall}

module _ {A : Type 0} (K : Field A) where
  open Series (F K) use {add as ◌+◌}

  infixl 6 ◌+◌
  -- κ i is the degree of Q i, and the partial quotient a i is that of P i + d by Q i
  pub record Steps {g : ℕ} {D : Px K} (o : Root K g D) : Type 0 where
    pub Q : ℕ → Px K
    pub P : ℕ → Px K
    pub κ : ℕ → ℕ
    pub size : ℕ → ℕ
    pub deg : (i : ℕ) → Deg K (Q i) (κ i)
    pub follows : (i : ℕ) → Follows K o (Q i) (P i) (Q (suc i)) (P (suc i))
    pub division : (i : ℕ) → Division K (P i + o.d) (Q i) (size i) (κ i)

  module _ {g : ℕ} {D : Px K} {o : Root K g D} (s : Steps o) where
    open s use {Q, P, κ, size, deg, follows, division}

    -- ---- one step
    pub sum_at : (i : ℕ) → (h : ℕ) × (κ (suc i) < h) × Deg K (P (suc i) + o.d) h
    sum_at i = sum_deg K (follows i) (deg (suc i))

    -- the degree of P + d past the start
    pub height : ℕ → ℕ
    height i = (sum_at i).0

    pub height_deg : (i : ℕ) → Deg K (P (suc i) + o.d) (height i)
    unfolding height
    height_deg i = (sum_at i).2

    pub height_more : (i : ℕ) → κ (suc i) < height i
    unfolding height
    height_more i = (sum_at i).1

    pub degree_same : (i : ℕ) → (follows i).κ ≡ κ i
    degree_same i = deg_unique K (follows i).deg (deg i)

    pub step_fall : (i : ℕ) → g < κ i → (height i ≤ κ i) × ((κ (suc i) ≤ g) ⊎ (κ (suc i) +ₙ 2 ≤ κ i))
    step_fall i h = subst (λ (n : ℕ). (height i ≤ n) × ((κ (suc i) ≤ g) ⊎ (κ (suc i) +ₙ 2 ≤ n))) (degree_same i) (fall K (follows i) (deg (suc i)) (let e = degree_same i in omega arith) (height_more i) (height_deg i))

    -- ---- to the first reduced ideal
    -- k steps from ideals that are not reduced
    abbrev pub Above : ℕ → Type 0
    Above k = (j : ℕ) → j < k → g < κ j

    -- k + 1 of them take twice k off the degree
    fall_twice : (k : ℕ) → Above (suc k) → κ k +ₙ (k +ₙ k) ≤ κ 0
    fall_twice zero h = omega arith
    fall_twice (suc k) h =
        let l = fall_twice k (λ j p. h j (omega arith)) in
        let m = h (suc k) (omega arith) in
        ⊎_elim (λ n. absurd (omega arith)) (λ n. omega arith) (step_fall k (h k (omega arith))).1

    -- the turns
    pub turns_most : (k : ℕ) → Above k → κ 0 ≤ g +ₙ g → k +ₙ k ≤ suc g
    turns_most zero h l = omega arith
    turns_most (suc k) h l = let a = fall_twice k h in let b = h k (omega arith) in omega arith

    -- ---- f
    -- the sum of the degrees of a, from 1 to k
    unfoldable pub sum_of_degrees : ℕ → ℕ
    sum_of_degrees zero = 0
    sum_of_degrees (suc k) = sum_of_degrees k +ₙ (height k -ₙ κ (suc k))

    -- what is taken off is taken off the start's degree: f ≤ 0
    pub shift_most : (k : ℕ) → Above k → κ k +ₙ sum_of_degrees k ≤ κ 0
    unfolding sum_of_degrees
    shift_most zero h = omega arith
    shift_most (suc k) h = let a = shift_most k (λ j p. h j (omega arith)) in let b = (step_fall k (h k (omega arith))).0 in let c = height_more k in omega arith

    -- the other form of f: the sum of deg (P_j + d) - deg Q_(j-1), from 1 to k
    unfoldable pub height_sum : ℕ → ℕ
    height_sum zero = 0
    height_sum (suc k) = height_sum k +ₙ height k

    unfoldable pub prior_sum : ℕ → ℕ
    prior_sum zero = 0
    prior_sum (suc k) = prior_sum k +ₙ κ k
