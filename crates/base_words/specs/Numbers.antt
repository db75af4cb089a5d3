-- How many kinds and values a word may have, and how many numbers two words hold.
use Rattle.std.specs.Prelude.{ℕ}
pub use Rattle.spec_arithmetic.specs.Words.{values, pairs}

-- 2^4
abbrev pub kinds : ℕ
kinds = 16
