-- 64 bits are enough for the estimate: for q from 3 to 13, g + 1 up to 4 and a + t up to q, the numerator is below
-- 2^63, the denominator from 1 to 2^54 − 1, and twice the numerator plus the denominator below 2^64.
use Rattle.std.specs.Prelude.{ℕ, ◌+◌, ◌*◌, ◌^◌, ◌<◌}

-- no sum or product that `nearest_of` forms of N and M leaves 64 bits
pub record Fits (N M : ℕ) : Type 0 where
  pub some : 0 < M
  pub numerator : N < 2 ^ 63
  pub denominator : M < 2 ^ 54
  pub sum : 2 * N + M < 2 ^ 64
