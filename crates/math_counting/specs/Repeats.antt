-- The pigeonhole principle for numbers: of n + 1 values below n, two are equal. Else the numbers 0 to n would
-- have as many partners among the n numbers below n.
use Rattle.std.specs.Prelude.{ℕ, ◌≤◌, ◌<◌, ◌≡◌}

-- two of the indices 0 to n have the same value
pub record Repeats (f : ℕ → ℕ) (n : ℕ) : Type 0 where
  pub first : ℕ
  pub second : ℕ
  pub rises : first < second
  pub within : second ≤ n
  pub same : f first ≡ f second

abbrev pub RepeatedValue : Type 0
RepeatedValue = (n : ℕ) (f : ℕ → ℕ) → ((i : ℕ) → i ≤ n → f i < n) → Repeats f n
