-- The printed ticket, q = 3, D = x⁴ + x + 1, b = 6, is past every refusal, so the demands speak of it: among
-- all p and s with s ≠ 0 and p² − D·s² a nonzero constant modulo 3 none has a degree of p below 7, and those
-- of degree 7 are the printed unit, its conjugate and their negatives.
use Rattle.std.specs.Prelude.{◌≡◌, refl, [], ◌∷◌}
use Rattle.spec_arithmetic.specs.Field.{inverse, inverse_in, fits, prime}
use Rattle.spec_arithmetic.specs.Polynomials.{trim, size, deg, zip, add, sub, scale, mul, lead, put, divide, quo, rem, monic, gcd, gcd_in, times, times_from, derivative, monomial, root, root_in}
use Rattle.spec_arithmetic.specs.Primes.{odd_prime, no_divisor}
use Rattle.spec_arithmetic.specs.Words.{kind, value, word, same, some_not, one_of}
use Rattle.spec_definitions.specs.Ticket.{genus, ticket_of, wrong_head, wrong_prime, wrong_degree, later_kinds, wrong_layout, wrong_coefficient, wrong_lead, not_squarefree, first_of, tests_of, refusal_of}
use Rattle.spec_definitions.specs.Walk.{partial, next_p, next, steps, walk, p_before, s_before, constant?, first_from, quasi_period, degree_before, over_lead, unit_of, signed_q, constant_of}
use Rattle.spec_definitions.specs.Answers.{root_of, outcome_of, words_outcome}
use Rattle.spec_definitions.specs.Marked.{example}
use Rattle.spec_demands.specs.LeastDegree.{LeastFound}
use Rattle.spec_demands.proofs.LeastDegree.{t3}
use Rattle.spec_demands.specs.Continued.{Walks}
use Rattle.spec_demands.proofs.Continued.{t2}

pub example_passes : refusal_of (example 6) ≡ 0
unfolding inverse inverse_in fits trim size zip add sub scale mul lead put divide quo rem monic gcd gcd_in times times_from derivative odd_prime no_divisor kind value word same some_not one_of genus ticket_of wrong_head wrong_prime wrong_degree later_kinds wrong_layout wrong_coefficient wrong_lead not_squarefree first_of tests_of refusal_of
example_passes = refl

pub example_walks : Walks (ticket_of (example 6)) (words_outcome (example 6))
example_walks = t2 (example 6) example_passes

pub example_least : LeastFound (prime 3) (1 ∷ 1 ∷ 0 ∷ 0 ∷ 1 ∷ []) (record { p = 1 ∷ 0 ∷ 2 ∷ 1 ∷ 1 ∷ 2 ∷ 2 ∷ 1 ∷ []; s = 0 ∷ 1 ∷ 2 ∷ 2 ∷ 2 ∷ 1 ∷ [] }) 7 1
unfolding inverse inverse_in fits trim size deg zip add sub scale mul lead put divide quo rem monic gcd gcd_in times times_from derivative monomial root root_in odd_prime no_divisor kind value word same some_not one_of genus ticket_of wrong_head wrong_prime wrong_degree later_kinds wrong_layout wrong_coefficient wrong_lead not_squarefree first_of tests_of refusal_of partial next_p next steps walk p_before s_before constant? first_from quasi_period degree_before over_lead unit_of signed_q constant_of root_of outcome_of words_outcome
example_least = t3 (example 6)
