-- q passed the test of the primes.
use Rattle.std.proofs.Common.{sym, ◌∙◌, ap, not}
use Rattle.spec_arithmetic.specs.Field.{prime}
use Rattle.spec_definitions.specs.Ticket.{wrong_prime}
use Rattle.spec_laws.specs.Admitted.{field_of}
use Rattle.test_polynomial.proofs.run.Goals as goal

pub new-requires : goal.new-requires
unfolding wrong_prime
new-requires g c = field_of (prime c.args.q) (ap not (sym c.is_odd_prime.ensures ∙ c.if-is_odd_prime.true))
