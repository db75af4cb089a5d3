-- Each of the tests is the definition's, with the degree that word 0 names.
use Rattle.std.proofs.Common.{arith}
use Rattle.std.proofs.lemmas.Bool.Decides.{nat_tests}
use Rattle.spec_several.specs.Several.{degree_of, prime_count, wrong_shape}
use Rattle.ticket_several.proofs.shape.wrong_shape.Goals as goal

pub returns-in_default : goal.returns-in_default
unfolding wrong_shape
returns-in_default c = grind (arith, nat_tests)

pub returns-then-other_kinds : goal.returns-then-other_kinds
unfolding wrong_shape degree_of prime_count
returns-then-other_kinds c = grind (arith, nat_tests)

pub returns-else-other_kinds : goal.returns-else-other_kinds
unfolding wrong_shape degree_of prime_count
returns-else-other_kinds c = grind (arith, nat_tests)
