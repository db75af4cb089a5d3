-- The first test that applies gives the number; past test 3 n is at most 64.
use Rattle.std.proofs.Common.{arith, sym, ◌∙◌, ap, not}
use Rattle.std.proofs.lemmas.Grind.{common_steps}
use Rattle.spec_arithmetic.specs.Field.{prime}
use Rattle.spec_definitions.specs.Ticket.{wrong_prime}
use Rattle.spec_laws.specs.Admitted.{field_of}
use Rattle.spec_laws.specs.FirstTest.{first_applies, first_passes, first_nil}
use Rattle.ticket_layout.specs.Refusal.{layout_tests, degree_most}
use Rattle.ticket_layout.proofs.order.layout_refusal.Goals as goal

pub returns-then-not-is_odd_prime-clause-refused : goal.returns-then-not-is_odd_prime-clause-refused
unfolding layout_tests wrong_prime
returns-then-not-is_odd_prime-clause-refused c = grind (arith, common_steps, first_applies, first_passes)

pub returns-then-wrong_degree-clause-refused : goal.returns-then-wrong_degree-clause-refused
unfolding layout_tests wrong_prime
returns-then-wrong_degree-clause-refused c = grind (arith, common_steps, first_applies, first_passes)

pub wrong_layout-requires : goal.wrong_layout-requires
wrong_layout-requires c = degree_most _ (sym c.wrong_degree.ensures ∙ c.if-wrong_degree.false)

pub returns-then-wrong_layout-clause-refused : goal.returns-then-wrong_layout-clause-refused
unfolding layout_tests wrong_prime
returns-then-wrong_layout-clause-refused c = grind (arith, common_steps, first_applies, first_passes)

pub new-requires : goal.new-requires
unfolding wrong_prime
new-requires c = field_of (prime c.args.q) (ap not (sym c.is_odd_prime.ensures ∙ c.if-not-is_odd_prime.false))

pub returns-clause-refused : goal.returns-clause-refused
unfolding layout_tests wrong_prime
returns-clause-refused c = grind (arith, common_steps, first_applies, first_passes, first_nil)
