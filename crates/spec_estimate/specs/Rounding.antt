-- The nearest whole number to N over M, an exact half going up, by its two inequalities with no subtraction. For each N
-- and each M > 0 there is one such number, and the definition's is it.
use Prim.Native.Nat.{ℕ, ◌+◌, ◌*◌, ◌≤◌, ◌<◌}
use Rattle.std.specs.Prelude.{◌≡◌}
use Rattle.spec_estimate.specs.Estimate.{nearest_of}

-- "the nearest whole number, an exact half going up": w is at most N/M + 1/2, and w + 1 is above that
pub record Nearest (N M w : ℕ) : Type 0 where
  pub low : 2 * w * M ≤ 2 * N + M
  pub high : 2 * N + M < 2 * (w + 1) * M

pub record Rounds : Type 0 where
  pub is : (N M : ℕ) → 0 < M → Nearest N M (nearest_of N M)
  pub only : (N M w : ℕ) → 0 < M → Nearest N M w → w ≡ nearest_of N M
