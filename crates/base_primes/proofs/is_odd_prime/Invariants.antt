-- Before 2k + 1 is tried nothing from 2 up and below it divides q. Where its square is above q, or it is 65, q is
-- prime.
use Rattle.std.proofs.Common.{◌*◌, ◌+◌}
use Rattle.base_primes.specs.Divisors.{UndividedBelow}
use Rattle.base_primes.proofs.is_odd_prime.Given as goal

abbrev pub invariant-loop-k : goal.invariant-loop-k
invariant-loop-k l = UndividedBelow l.q (2 * l.k + 1)
