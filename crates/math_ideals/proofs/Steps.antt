-- The proofs of specs/Steps.
use Prim.Native.Nat.{ℕ, zero, suc, ◌+◌ as ◌+ₙ◌, ◌-◌ as ◌-ₙ◌, ◌≤◌, ◌<◌}
use native.Mathlib.Omega.{arith}
use Rattle.std.specs.Prelude.{◌≡◌, ◌⊎◌}
use Rattle.std.proofs.Common.{subst, ⊎_elim}
use Rattle.math_ring.specs.Order.{le_or_lt}
use Rattle.math_ring.specs.Series.{Series}
use Rattle.math_algebra.specs.Field.{Field}
use Rattle.math_algebra.specs.Polynomial.{F, Px, Deg}
use Rattle.math_algebra.specs.Division.{quotient_deg}
use Rattle.math_surd.specs.Root.{Root}
use Rattle.math_ideals.proofs.Reduction.{small_next}
use Rattle.math_ideals.specs.Steps as defs

module _ {A : Type 0} (K : Field A) where
  open Series (F K) use {add as ◌+◌}

  infixl 6 ◌+◌
  abbrev Steps : {g : ℕ} → {D : Px K} → (o : Root K g D) → Type 0
  Steps = defs.Steps K

  module _ {g : ℕ} {D : Px K} {o : Root K g D} (s : Steps o) where
    open s use {Q, P, κ, size, deg, follows, division}

    abbrev sum_at : (i : ℕ) → (h : ℕ) × (κ (suc i) < h) × Deg K (P (suc i) + o.d) h
    sum_at = defs.sum_at K s

    abbrev height : ℕ → ℕ
    height = defs.height K s

    abbrev height_deg : (i : ℕ) → Deg K (P (suc i) + o.d) (height i)
    height_deg = defs.height_deg K s

    abbrev height_more : (i : ℕ) → κ (suc i) < height i
    height_more = defs.height_more K s

    -- a is not 0, and not constant
    pub partial_deg : (i : ℕ) → Deg K (division (suc i)).quo (height i -ₙ κ (suc i))
    partial_deg i = quotient_deg K (deg (suc i)) (height_deg i) (let h = height_more i in omega arith) (division (suc i))

    abbrev degree_same : (i : ℕ) → (follows i).κ ≡ κ i
    degree_same = defs.degree_same K s

    abbrev step_fall : (i : ℕ) → g < κ i → (height i ≤ κ i) × ((κ (suc i) ≤ g) ⊎ (κ (suc i) +ₙ 2 ≤ κ i))
    step_fall = defs.step_fall K s

    pub degree_falls : (i : ℕ) → g < κ i → κ (suc i) < κ i
    degree_falls i h = let a = step_fall i h in let b = height_more i in omega arith

    -- no degree is above a bound of the start's that is at least g
    pub degree_most : (m : ℕ) → g ≤ m → κ 0 ≤ m → (i : ℕ) → κ i ≤ m
    degree_most m l h zero = h
    degree_most m l h (suc i) = let b = degree_most m l h i in ⊎_elim (λ k. let f = degree_falls i k in omega arith) (λ k. let f = small_next K (follows i) (deg (suc i)) (let e = degree_same i in omega arith) in omega arith) (le_or_lt (suc g) (κ i))

    abbrev Above : ℕ → Type 0
    Above = defs.Above K s

    pub above_more : (k : ℕ) → Above k → g < κ k → Above (suc k)
    above_more k h m j p = ⊎_elim (λ e. subst (λ (i : ℕ). g < κ i) (let w : k ≡ j = omega arith in w) m) (λ e. h j e) (le_or_lt k j)

    -- with no bound on the start: the degree falls with each
    pub turns_less : (k : ℕ) → Above k → κ k +ₙ k ≤ κ 0
    turns_less zero h = omega arith
    turns_less (suc k) h = let a = turns_less k (λ j p. h j (omega arith)) in let b = degree_falls k (h k (omega arith)) in omega arith

    pub first_reduced : (k : ℕ) × (κ k ≤ g) × Above k
    first_reduced = go (suc (κ 0)) 0 (λ j p. absurd (omega arith)) (omega arith)
      where
        go : (n k : ℕ) → Above k → κ 0 < n +ₙ k → (k : ℕ) × (κ k ≤ g) × Above k
        go zero k h l = absurd (let a = turns_less k h in omega arith)
        go (suc n) k h l = ⊎_elim (λ m. go n (suc k) (above_more k h m) (omega arith)) (λ m. (k, omega arith, h)) (le_or_lt (suc g) (κ k))

    abbrev sum_of_degrees : ℕ → ℕ
    sum_of_degrees = defs.sum_of_degrees K s

    abbrev height_sum : ℕ → ℕ
    height_sum = defs.height_sum K s

    abbrev prior_sum : ℕ → ℕ
    prior_sum = defs.prior_sum K s

    pub shift_form : (k : ℕ) → κ k +ₙ sum_of_degrees k +ₙ prior_sum k ≡ κ 0 +ₙ height_sum k
    unfolding defs.sum_of_degrees defs.height_sum defs.prior_sum
    shift_form zero = omega arith
    shift_form (suc k) = let a = shift_form k in let c = height_more k in omega arith
