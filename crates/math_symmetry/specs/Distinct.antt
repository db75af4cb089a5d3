-- Which states of the walk have the same ideal: two of them exactly where the quasi-period m divides the
-- difference of their indices, so that the first m states have m ideals. `distinct` says so. Carried by
-- `Same` backward: equal ideals at i and j are equal at i - j and 0, so that Q is constant at i - j.
use Rattle.std.specs.Prelude.{ℕ, ◌+◌ as ◌+ₙ◌, ◌*◌ as ◌*ₙ◌, ◌≤◌, ◌<◌, ◌≡◌}
use Rattle.math_algebra.specs.Field.{Field}
use Rattle.math_algebra.specs.Polynomial.{Px}
use Rattle.math_surd.specs.Root.{Root}
use Rattle.math_surd.specs.Walk.{Walk}
use Rattle.math_surd.specs.Same.{Same}

module _ {A : Type 0} (K : Field A) {g : ℕ} {D : Px K} {o : Root K g D} (w : Walk K o) where
  open w use {κ}

  -- m divides i - j, where j ≤ i
  abbrev pub Apart : ℕ → ℕ → ℕ → Type 0
  Apart m i j = (k : ℕ) × (i ≡ k *ₙ m +ₙ j)

  -- Two states have the same ideal exactly where m divides the difference of their indices, Q is constant at
  -- the multiples of m only, and no two of the first m states have the same ideal
  pub record Distinct (m : ℕ) : Type 0 where
    pub same_apart : (i j : ℕ) → j ≤ i → Same K w i j → Apart m i j
    pub apart_same : (i j : ℕ) → Apart m i j → Same K w i j
    pub constant_apart : (i : ℕ) → κ i ≡ 0 → Apart m i 0
    pub apart_constant : (i : ℕ) → Apart m i 0 → κ i ≡ 0
    pub one_each : (i j : ℕ) → i < m → j < m → Same K w i j → i ≡ j
