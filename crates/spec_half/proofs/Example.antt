-- Answers by computation: m = 1, m even and m odd, with a budget that is just enough and one that is one short;
-- no budget at all; refusals.
use Rattle.std.specs.Prelude.{ℕ, ◌≡◌, refl, List, [], ◌∷◌, map}
use Rattle.spec_arithmetic.specs.Field.{inverse, inverse_in, fits}
use Rattle.spec_arithmetic.specs.Polynomials.{trim, size, deg, zip, add, sub, scale, mul, lead, put, divide, quo, rem, monic, gcd, gcd_in, times, times_from, derivative, monomial, root, root_in}
use Rattle.spec_arithmetic.specs.Primes.{odd_prime, no_divisor}
use Rattle.spec_arithmetic.specs.Words.{kind, value, word, same, some_not, one_of}
use Rattle.spec_definitions.specs.Ticket.{genus, ticket_of, wrong_head, wrong_prime, wrong_degree, later_kinds, wrong_layout, wrong_coefficient, wrong_lead, not_squarefree, first_of, tests_of, refusal_of}
use Rattle.spec_definitions.specs.Walk.{partial, next_p, next, steps, walk, p_before, degree_before}
use Rattle.spec_definitions.specs.Answers.{root_of}
use Rattle.spec_definitions.specs.Marked.{ticket, saying, example}
use Rattle.spec_half.specs.Half.{middle_period, equal?, middle_q?, middle_p?, first_middle, degrees_to, middle_regulator, half_said, half_of, words_half, half_answer}

-- the number, then R and m where found, b and deg p_{b−1} where spent
abbrev answers : List (List ℕ) → List (List ℕ)
answers = map (λ w. saying (half_answer w))

-- m = 1: x² + 1 over F_3 with one step, and with none; x^4 + 2 over F_5
-- m = 6: x^4 + x + 1 over F_3 with three steps, and with two; with none
-- m = 5: x^4 + x² + x + 1 over F_3 with three steps, and with two
-- (x² + 1)² over F_3; x^4 + x + 1 with q = 9
pub answers_computed : answers
    (ticket 3 (1 ∷ 0 ∷ 1 ∷ []) 1
    ∷ ticket 3 (1 ∷ 0 ∷ 1 ∷ []) 0
    ∷ ticket 5 (2 ∷ 0 ∷ 0 ∷ 0 ∷ 1 ∷ []) 1
    ∷ example 3
    ∷ example 2
    ∷ example 0
    ∷ ticket 3 (1 ∷ 1 ∷ 1 ∷ 0 ∷ 1 ∷ []) 3
    ∷ ticket 3 (1 ∷ 1 ∷ 1 ∷ 0 ∷ 1 ∷ []) 2
    ∷ ticket 3 (1 ∷ 0 ∷ 2 ∷ 0 ∷ 1 ∷ []) 6
    ∷ ticket 9 (1 ∷ 1 ∷ 0 ∷ 0 ∷ 1 ∷ []) 6
    ∷ [])
    ≡ (0 ∷ 1 ∷ 1 ∷ [])
    ∷ (11 ∷ 0 ∷ 0 ∷ [])
    ∷ (0 ∷ 2 ∷ 1 ∷ [])
    ∷ (0 ∷ 7 ∷ 6 ∷ [])
    ∷ (11 ∷ 2 ∷ 3 ∷ [])
    ∷ (11 ∷ 0 ∷ 0 ∷ [])
    ∷ (0 ∷ 6 ∷ 5 ∷ [])
    ∷ (11 ∷ 2 ∷ 3 ∷ [])
    ∷ (7 ∷ [])
    ∷ (2 ∷ [])
    ∷ []
unfolding inverse inverse_in fits trim size deg zip add sub scale mul lead put divide quo rem monic gcd gcd_in times times_from derivative monomial root root_in odd_prime no_divisor kind value word same some_not one_of genus ticket_of wrong_head wrong_prime wrong_degree later_kinds wrong_layout wrong_coefficient wrong_lead not_squarefree first_of tests_of refusal_of partial next_p next steps walk p_before degree_before root_of middle_period equal? middle_q? middle_p? first_middle degrees_to middle_regulator half_said half_of words_half half_answer
answers_computed = refl
