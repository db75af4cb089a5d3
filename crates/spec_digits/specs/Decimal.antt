-- The digits of a number: the last one after the digits of the tenth part, and how many there are at most.
use Rattle.std.specs.Prelude.{ℕ, zero, suc, ◌*◌}

-- the least number of d + 1 digits
unfoldable pub power : ℕ → ℕ
power zero = 1
power (suc d) = 10 * power d
