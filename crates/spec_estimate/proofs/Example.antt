-- Estimates by computation: the number, the fraction, the nearest whole number. The halves: over F_3 with D zero at all
-- three elements 27/2 for n = 6 and 81/2 for n = 8. The printed example, where two values are squares and one is 0;
-- x² + x over F_3, where two are 0; x^4 + 2 over F_5, where all are non-squares; x^8 + 3x + 6 over F_7, and x^8 + 2 over
-- F_13 with the largest numerator, 13^17; x² + x + 3 over F_7. Then 15 for q = 17 and for n = 10; 7 and 5 before it; 1
-- for no words.
use Rattle.std.specs.Prelude.{ℕ, ◌^◌, ◌≡◌, refl, List, [], ◌∷◌, map}
use Rattle.spec_arithmetic.specs.Field.{inverse, inverse_in, fits}
use Rattle.spec_arithmetic.specs.Polynomials.{trim, size, zip, add, sub, scale, mul, lead, put, divide, quo, rem, monic, gcd, gcd_in, times, times_from, derivative}
use Rattle.spec_arithmetic.specs.Primes.{odd_prime, no_divisor}
use Rattle.spec_arithmetic.specs.Words.{kind, value, word, same, some_not, one_of}
use Rattle.spec_definitions.specs.Ticket.{genus, ticket_of, wrong_head, wrong_prime, wrong_degree, later_kinds, wrong_layout, wrong_coefficient, wrong_lead, not_squarefree, first_of, tests_of, refusal_of}
use Rattle.spec_definitions.specs.Marked.{ticket, example}
use Rattle.spec_estimate.specs.Estimate.{evaluate, some_root, square?, non_square?, count_below, squares_of, non_squares_of, numerator_of, denominator_of, nearest_of, too_large, EstimateAnswer, estimate_is, estimate_done, estimate_refused, estimate_answer}

-- the four numbers of an answer
abbrev shown : List ℕ → List ℕ
shown w = let r : EstimateAnswer = estimate_answer w in r.number ∷ r.numerator ∷ r.denominator ∷ r.nearest ∷ []

pub estimates_computed : map shown
    (ticket 3 (0 ∷ 2 ∷ 1 ∷ 1 ∷ 1 ∷ 0 ∷ 1 ∷ []) 0
    ∷ ticket 3 (0 ∷ 2 ∷ 0 ∷ 1 ∷ 0 ∷ 1 ∷ 2 ∷ 2 ∷ 1 ∷ []) 7
    ∷ example 6
    ∷ ticket 3 (0 ∷ 1 ∷ 1 ∷ []) 1
    ∷ ticket 5 (2 ∷ 0 ∷ 0 ∷ 0 ∷ 1 ∷ []) 2
    ∷ ticket 7 (6 ∷ 3 ∷ 0 ∷ 0 ∷ 0 ∷ 0 ∷ 0 ∷ 0 ∷ 1 ∷ []) 0
    ∷ ticket 13 (2 ∷ 0 ∷ 0 ∷ 0 ∷ 0 ∷ 0 ∷ 0 ∷ 0 ∷ 1 ∷ []) 0
    ∷ ticket 7 (3 ∷ 1 ∷ 1 ∷ []) 0
    ∷ ticket 17 (1 ∷ 0 ∷ 1 ∷ []) 0
    ∷ ticket 3 (1 ∷ 1 ∷ 0 ∷ 0 ∷ 0 ∷ 0 ∷ 0 ∷ 0 ∷ 0 ∷ 0 ∷ 1 ∷ []) 0
    ∷ ticket 17 (0 ∷ 0 ∷ 1 ∷ []) 0
    ∷ ticket 17 (17 ∷ 0 ∷ 1 ∷ []) 0
    ∷ []
    ∷ [])
    ≡ ((0 ∷ 27 ∷ 2 ∷ 14 ∷ [])
    ∷ (0 ∷ 81 ∷ 2 ∷ 41 ∷ [])
    ∷ (0 ∷ 81 ∷ 8 ∷ 10 ∷ [])
    ∷ (0 ∷ 9 ∷ 8 ∷ 1 ∷ [])
    ∷ (0 ∷ 78125 ∷ 31104 ∷ 3 ∷ [])
    ∷ (0 ∷ 1977326743 ∷ 5308416 ∷ 372 ∷ [])
    ∷ (0 ∷ 13 ^ 17 ∷ 5141129593356288 ∷ 1683 ∷ [])
    ∷ (0 ∷ 5764801 ∷ 5308416 ∷ 1 ∷ [])
    ∷ (15 ∷ 0 ∷ 0 ∷ 0 ∷ [])
    ∷ (15 ∷ 0 ∷ 0 ∷ 0 ∷ [])
    ∷ (7 ∷ 0 ∷ 0 ∷ 0 ∷ [])
    ∷ (5 ∷ 0 ∷ 0 ∷ 0 ∷ [])
    ∷ (1 ∷ 0 ∷ 0 ∷ 0 ∷ [])
    ∷ [])
unfolding evaluate some_root square? non_square? count_below squares_of non_squares_of numerator_of denominator_of nearest_of too_large estimate_is estimate_done estimate_refused estimate_answer inverse inverse_in fits trim size zip add sub scale mul lead put divide quo rem monic gcd gcd_in times times_from derivative odd_prime no_divisor kind value word same some_not one_of genus ticket_of wrong_head wrong_prime wrong_degree later_kinds wrong_layout wrong_coefficient wrong_lead not_squarefree first_of tests_of refusal_of
estimates_computed = refl
