-- Outcomes by computation: negative coefficients, primes that are refused with the others carried on, found
-- and spent, sixteen primes, and tickets that are refused.
use Rattle.std.specs.Prelude.{ℕ, ◌+◌, ◌-◌, ◌≡◌, refl, List, [], ◌∷◌, ◌++◌, map, length, replicate}
use Rattle.spec_arithmetic.specs.Field.{inverse, inverse_in, fits}
use Rattle.spec_arithmetic.specs.Polynomials.{trim, size, deg, zip, add, sub, scale, mul, lead, put, divide, quo, rem, monic, gcd, gcd_in, times, times_from, derivative, monomial, root, root_in}
use Rattle.spec_arithmetic.specs.Primes.{odd_prime, no_divisor}
use Rattle.spec_arithmetic.specs.Words.{values, kind, value, word, same, some_not, one_of}
use Rattle.spec_definitions.specs.Ticket.{genus, ticket_of, wrong_head, wrong_prime, wrong_degree, later_kinds, wrong_layout, wrong_coefficient, wrong_lead, not_squarefree, first_of, tests_of, refusal_of}
use Rattle.spec_definitions.specs.Walk.{partial, next_p, next, steps, walk, p_before, constant?, first_from, quasi_period, degree_before, over_lead, signed_q, constant_of}
use Rattle.spec_definitions.specs.Answers.{Outcome, found, spent, refused, said, root_of, outcome_of, words_outcome}
use Rattle.spec_several.specs.Several.{negatives, several_kinds, degree_of, prime_count, coefficients_of, budget_of, primes_of, wrong_shape, several_refusal, residue, job_at, job_words, several_of, sixteen_places, several_answer}

-- the value that stands for −k
abbrev minus : ℕ → ℕ
minus k = values - k

-- the words of a ticket: the values of the coefficients, constant term first, the budget, the primes with the
-- kind of their words
abbrev words_with : ℕ → List ℕ → ℕ → List ℕ → List ℕ
words_with k D b ps =
    word 2 (length D - 1)
    ∷ map (word 12) D
    ++ (word 4 b ∷ map (word k) ps ++ (word 15 (length D + 2 + length ps) ∷ []))

abbrev outcomes : List ℕ → ℕ → List ℕ → List Outcome
outcomes D b ps = several_of (words_with 1 D b ps)

-- x² − x − 1 at 3, 5 and 7: at 5 it is (x + 2)²
-- x² − 3 at 9, 3, 5 and 0
-- x^4 + 10x² − 96x − 71 at 3 and 5
-- x^4 + x + 1 at 3 and 5 with six steps
-- 2x² + 1 at 7
-- x² − 2^27, the least integer of a word, and x² + 2^27 − 1, the greatest, at 5 and 7
pub primes_computed : ◌≡◌ {A = List (List Outcome)}
    (outcomes (minus 1 ∷ minus 1 ∷ 1 ∷ []) 1 (3 ∷ 5 ∷ 7 ∷ [])
    ∷ outcomes (minus 3 ∷ 0 ∷ 1 ∷ []) 1 (9 ∷ 3 ∷ 5 ∷ 0 ∷ [])
    ∷ outcomes (minus 71 ∷ minus 96 ∷ 10 ∷ 0 ∷ 1 ∷ []) 12 (3 ∷ 5 ∷ [])
    ∷ outcomes (1 ∷ 1 ∷ 0 ∷ 0 ∷ 1 ∷ []) 6 (3 ∷ 5 ∷ [])
    ∷ outcomes (1 ∷ 0 ∷ 2 ∷ []) 1 (7 ∷ [])
    ∷ outcomes (negatives ∷ 0 ∷ 1 ∷ []) 1 (5 ∷ 7 ∷ [])
    ∷ outcomes ((negatives - 1) ∷ 0 ∷ 1 ∷ []) 1 (5 ∷ 7 ∷ [])
    ∷ outcomes (1 ∷ 0 ∷ 1 ∷ []) 1 (replicate 16 3)
    ∷ [])
    ((found 1 1 2 ∷ refused 7 ∷ found 1 1 3 ∷ [])
    ∷ (refused 2 ∷ refused 7 ∷ found 1 1 3 ∷ refused 2 ∷ [])
    ∷ (refused 7 ∷ found 8 7 2 ∷ [])
    ∷ (found 7 6 1 ∷ spent 6 7 ∷ [])
    ∷ (refused 6 ∷ [])
    ∷ (found 1 1 3 ∷ found 1 1 1 ∷ [])
    ∷ (found 1 1 3 ∷ refused 7 ∷ [])
    ∷ replicate 16 (found 1 1 2)
    ∷ [])
unfolding several_kinds degree_of prime_count coefficients_of budget_of primes_of wrong_shape several_refusal residue job_at job_words several_of inverse inverse_in fits trim size deg zip add sub scale mul lead put divide quo rem monic gcd gcd_in times times_from derivative monomial root root_in odd_prime no_divisor kind value word same some_not one_of genus ticket_of wrong_head wrong_prime wrong_degree later_kinds wrong_layout wrong_coefficient wrong_lead not_squarefree first_of tests_of refusal_of partial next_p next steps walk p_before constant? first_from quasi_period degree_before over_lead signed_q constant_of root_of outcome_of words_outcome
primes_computed = refl

-- seventeen primes, none, no word at all, a prime's word of kind 13, n = 3 without a prime; then n = 3 and
-- n = 0 in the right shape
pub tickets_computed : ◌≡◌ {A = List (List Outcome)}
    (outcomes (1 ∷ 0 ∷ 1 ∷ []) 1 (replicate 17 3)
    ∷ outcomes (1 ∷ 0 ∷ 1 ∷ []) 1 []
    ∷ several_of []
    ∷ several_of (words_with 13 (1 ∷ 0 ∷ 1 ∷ []) 1 (3 ∷ []))
    ∷ outcomes (1 ∷ 0 ∷ 0 ∷ 1 ∷ []) 1 []
    ∷ outcomes (1 ∷ 0 ∷ 0 ∷ 1 ∷ []) 1 (3 ∷ 5 ∷ [])
    ∷ outcomes (1 ∷ []) 1 (3 ∷ [])
    ∷ [])
    (replicate 5 (refused 14 ∷ []) ++ replicate 2 (refused 3 ∷ []))
unfolding several_kinds degree_of prime_count wrong_shape several_refusal several_of kind value word same wrong_degree first_of
tickets_computed = refl

-- the answer for no word at all
pub answer_computed : several_answer [] ≡ record {
  words = 0;
  count = 1;
  says = said (refused 14) ∷ replicate 15 (said (refused 0));
}
unfolding several_answer sixteen_places several_kinds degree_of prime_count wrong_shape several_refusal several_of kind value same first_of
answer_computed = refl
