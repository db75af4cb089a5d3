-- Which q are allowed: the odd primes below 4,096, found by division.
use Rattle.std.specs.Prelude.{ℕ, zero, suc, ◌*◌, ◌%◌, Bool, true, false, ◌&&◌, ltb, eqb}

-- no number from d up whose square is at most q divides q; the first number bounds the turns
unfoldable pub no_divisor : ℕ → ℕ → ℕ → Bool
no_divisor zero d q = true
no_divisor (suc k) d q =
    elim (ltb q (d * d)) [
      | true ↦ true
      | false ↦ elim (eqb (q % d) 0) [ true ↦ false | false ↦ no_divisor k (suc d) q ]
    ]

-- "q isn't an odd prime below 4,096": 64² is 4,096, so that 2 to 63, 62 numbers, are all that can be tried
unfoldable pub odd_prime : ℕ → Bool
odd_prime q = elim (ltb q 4096) [ true ↦ ltb 2 q && no_divisor 62 2 q | false ↦ false ]
