-- Answers by computation: the printed example, q = 3 and D = x^4 + x + 1 with R = 7 and m = 6, whose
-- distances are 0, 2, 3, 4, 5, 6 and then 7, 9 and so on; n = 2, where every index has the one ideal; 10, and
-- a ticket's refusal before it.
use Rattle.std.specs.Prelude.{ℕ, ◌≡◌, refl, List, [], ◌∷◌, ◌++◌, map}
use Rattle.spec_arithmetic.specs.Field.{inverse, inverse_in, fits}
use Rattle.spec_arithmetic.specs.Polynomials.{trim, size, deg, zip, add, sub, scale, mul, lead, put, divide, quo, rem, monic, gcd, gcd_in, bezout, bezout_in, times, times_from, derivative, monomial, root, root_in}
use Rattle.spec_arithmetic.specs.Primes.{odd_prime, no_divisor}
use Rattle.spec_arithmetic.specs.Words.{kind, value, word, same, some_not, one_of}
use Rattle.spec_definitions.specs.Ticket.{genus, ticket_of, wrong_head, wrong_prime, wrong_degree, later_kinds, wrong_layout, wrong_coefficient, wrong_lead, not_squarefree, first_of, tests_of, refusal_of}
use Rattle.spec_definitions.specs.Walk.{partial, next_p, next, steps, walk}
use Rattle.spec_definitions.specs.Answers.{root_of}
use Rattle.spec_definitions.specs.Listing.{ideal_of}
use Rattle.spec_definitions.specs.Products.{product_of, reduced_from, turns_of, degree_sum, shift_of, giant_done}
use Rattle.spec_definitions.specs.Marked.{ticket, example}
use Rattle.spec_ideal_at.specs.Halving.{first_ideal, next_distance, single_step, single_steps, doubled, ideal_in, ideal_below, IdealAtAnswer, ideal_at_done, ideal_at_refused, ideal_at_answer}

-- the number, the distance and the next one; Q; P
abbrev shown : List ℕ → ℕ → List (List ℕ)
shown w y = let a : IdealAtAnswer = ideal_at_answer w y in (a.number ∷ a.distance ∷ a.next ∷ []) ∷ a.q ∷ a.p ∷ []

-- the printed example with no budget, up to 2^40 and one above
-- x² + 1 over F_3; (x² + 1)² over F_3 one above 2^40, refused as every ticket is
pub answers_computed : (map (shown (example 0)) (0 ∷ 1 ∷ 2 ∷ 6 ∷ 7 ∷ 8 ∷ 1000000007 ∷ 1099511627776 ∷ 1099511627777 ∷ []) ++ (shown (ticket 3 (1 ∷ 0 ∷ 1 ∷ []) 0) 5 ∷ shown (ticket 3 (1 ∷ 0 ∷ 2 ∷ 0 ∷ 1 ∷ []) 0) 1099511627777 ∷ []))
    ≡ ((0 ∷ 0 ∷ 2 ∷ []) ∷ (1 ∷ []) ∷ [] ∷ [])
    ∷ ((0 ∷ 0 ∷ 2 ∷ []) ∷ (1 ∷ []) ∷ [] ∷ [])
    ∷ ((0 ∷ 2 ∷ 3 ∷ []) ∷ (1 ∷ 1 ∷ []) ∷ (1 ∷ []) ∷ [])
    ∷ ((0 ∷ 6 ∷ 7 ∷ []) ∷ (1 ∷ 1 ∷ []) ∷ (2 ∷ []) ∷ [])
    ∷ ((0 ∷ 7 ∷ 9 ∷ []) ∷ (1 ∷ []) ∷ [] ∷ [])
    ∷ ((0 ∷ 7 ∷ 9 ∷ []) ∷ (1 ∷ []) ∷ [] ∷ [])
    ∷ ((0 ∷ 1000000007 ∷ 1000000008 ∷ []) ∷ (1 ∷ 1 ∷ []) ∷ (2 ∷ []) ∷ [])
    ∷ ((0 ∷ 1099511627776 ∷ 1099511627777 ∷ []) ∷ (1 ∷ 1 ∷ []) ∷ (1 ∷ []) ∷ [])
    ∷ ((10 ∷ 0 ∷ 0 ∷ []) ∷ [] ∷ [] ∷ [])
    ∷ ((0 ∷ 5 ∷ 6 ∷ []) ∷ (1 ∷ []) ∷ [] ∷ [])
    ∷ ((7 ∷ 0 ∷ 0 ∷ []) ∷ [] ∷ [] ∷ [])
    ∷ []
unfolding inverse inverse_in fits trim size deg zip add sub scale mul lead put divide quo rem monic gcd gcd_in bezout bezout_in times times_from derivative monomial root root_in odd_prime no_divisor kind value word same some_not one_of genus ticket_of wrong_head wrong_prime wrong_degree later_kinds wrong_layout wrong_coefficient wrong_lead not_squarefree first_of tests_of refusal_of partial next_p next steps walk root_of ideal_of product_of reduced_from turns_of degree_sum shift_of giant_done first_ideal next_distance single_step single_steps doubled ideal_in ideal_below ideal_at_done ideal_at_refused ideal_at_answer
answers_computed = refl
