-- The marked table, the printed example and the two sentences on list lengths, shown true of the definitions
-- by one fact.
-- A job is raw words and bytes; d, m and R are computed, and the records of rows 9 and 10 are cut out of the
-- computed listing.
use Rattle.std.specs.Prelude.{ℕ, suc, ◌+◌, ◌/◌, ◌%◌, ◌-◌, ◌≡◌, refl, List, [], ◌∷◌, ◌++◌, map, ℤ, pos, negsuc, length, take, drop, replicate}
use Rattle.spec_arithmetic.specs.Field.{prime, inverse, inverse_in, fits}
use Rattle.spec_arithmetic.specs.Polynomials.{trim, size, deg, pad, zip, add, sub, scale, mul, lead, put, divide, quo, rem, monic, gcd, gcd_in, bezout, bezout_in, times, times_from, derivative, monomial, root, root_in}
use Rattle.spec_arithmetic.specs.Primes.{odd_prime, no_divisor}
use Rattle.spec_arithmetic.specs.Words.{kind, value, word, high, low, joined, same, some_not, one_of}
use Rattle.spec_definitions.specs.Ticket.{ticket_words, genus, ticket_of, wrong_head, wrong_prime, wrong_degree, later_kinds, wrong_layout, wrong_coefficient, wrong_lead, not_squarefree, first_of, tests_of, refusal_of}
use Rattle.spec_definitions.specs.Walk.{Ideal, partial, next_p, next, steps, walk, p_before, s_before, constant?, first_from, quasi_period, degree_before, over_lead, unit_of, signed_q, constant_of}
use Rattle.spec_definitions.specs.Answers.{Said, said, root_of, outcome_of, words_outcome, regulator_of}
use Rattle.spec_definitions.specs.Units.{UnitAnswer, long_enough, written, unit_lists, unit_from, unit_answer}
use Rattle.spec_definitions.specs.Listing.{ListingAnswer, ideal_of, mirror_of, record_words, entry_of, record_of, records_from, listing_of, listing_from, listing_answer}
use Rattle.spec_definitions.specs.Lookup.{record_at, distance_at}
use Rattle.spec_definitions.specs.Products.{GiantStepAnswer, product_of, reduced_from, turns_of, degree_sum, shift_of, is_pair, wrong_pair, wrong_distance, giant_done, giant_refused, giant_answer}
use Rattle.spec_definitions.specs.Text.{ascii, decimal, decimal_in, spaced, line}
use Rattle.spec_definitions.specs.Program.{words_of, read_bytes, cut_word, first_line, record_line, record_lines, answer_lines, program_of}

-- what is asked: the words of a ticket, and for some calls lists of nines of a length, two records of the
-- ticket's own listing, or bytes
pub data Job : Type 0 where
  regulator : List ℕ → Job
  unit : List ℕ → ℕ → Job
  listing : List ℕ → ℕ → Job
  giant_step : List ℕ → ℕ → ℕ → Job
  orders : List ℕ → Job

-- the words of a ticket with the coefficients of D, constant term first
abbrev pub ticket : ℕ → List ℕ → ℕ → List ℕ
ticket q D b = ticket_words (record { field = prime q; n = length D - 1; D = D; b = b })

-- a word's four bytes, low byte first
abbrev pub bytes : List ℕ → List ℕ
bytes [] = []
bytes (w ∷ l) = w % 256 ∷ w / 256 % 256 ∷ w / 65536 % 256 ∷ w / 16777216 % 256 ∷ bytes l

-- a signed number as a sign and a size
abbrev pub signed : ℤ → List ℕ
signed (pos n) = 0 ∷ n ∷ []
signed (negsuc n) = 1 ∷ suc n ∷ []

abbrev pub saying : Said → List ℕ
saying s = s.number ∷ s.values

-- record i of the listing of a ticket with n = 4, as the pair and distance of a giant step
abbrev pub pair_of : List ℕ → ℕ → Ideal ℕ
pair_of l i = let r : List ℕ = map value (record_at l 4 (i - 1)) in record { q = take 2 (drop 5 r); p = drop 7 r }

abbrev pub giant : List ℕ → List ℕ → ℕ → ℕ → GiantStepAnswer
giant w l i j = giant_answer w (pair_of l i) (distance_at l 4 (i - 1)) (pair_of l j) (distance_at l 4 (j - 1))

abbrev pub answer_to : Job → List (List ℕ)
answer_to (regulator w) = saying (regulator_of w) ∷ []
answer_to (unit w k) =
    let z : List ℕ = replicate k 9 in
    let r : UnitAnswer = unit_answer w (record { first = z; second = z; third = z; fourth = z }) in
    saying r.says ∷ r.lists.first ∷ r.lists.second ∷ r.lists.third ∷ r.lists.fourth ∷ []
answer_to (listing w k) = let r : ListingAnswer = listing_answer w (replicate k 9) in saying r.says ∷ r.list ∷ []
answer_to (giant_step w i j) =
    let r : GiantStepAnswer = giant w (listing_answer w (replicate 48 0)).list i j in
    (r.number ∷ []) ∷ r.q ∷ r.p ∷ signed r.f ∷ signed r.distance ∷ []
answer_to (orders b) = program_of b ∷ []

-- q = 3, D = x^4 + x + 1
abbrev pub example : ℕ → List ℕ
example b = ticket 3 (1 ∷ 1 ∷ 0 ∷ 0 ∷ 1 ∷ []) b

abbrev pub jobs : List Job
jobs =
    regulator (ticket 3 (1 ∷ 0 ∷ 1 ∷ []) 1)
    ∷ unit (example 6) 8
    ∷ regulator (example 5)
    ∷ regulator (example 0)
    ∷ regulator (ticket 5 (2 ∷ 0 ∷ 0 ∷ 0 ∷ 1 ∷ []) 2)
    ∷ regulator (ticket 3 (1 ∷ 0 ∷ 2 ∷ 0 ∷ 1 ∷ []) 6)
    ∷ regulator (ticket 3 (1 ∷ 0 ∷ 0 ∷ 0 ∷ 0 ∷ 0 ∷ 1 ∷ []) 6)
    ∷ regulator (ticket 9 (1 ∷ 1 ∷ 0 ∷ 0 ∷ 1 ∷ []) 6)
    ∷ giant_step (example 6) 3 3
    ∷ giant_step (example 6) 2 6
    ∷ unit (example 6) 9
    ∷ unit (example 6) 7
    ∷ listing (example 6) 48
    ∷ listing (example 6) 49
    ∷ listing (example 6) 47
    ∷ orders (bytes (example 6))
    ∷ unit (ticket 5 (0 ∷ 1 ∷ 0 ∷ 0 ∷ 1 ∷ []) 2) 4
    ∷ unit (ticket 7 (0 ∷ 4 ∷ 0 ∷ 0 ∷ 1 ∷ []) 2) 4
    ∷ regulator (ticket 7 (0 ∷ 1 ∷ 0 ∷ 0 ∷ 1 ∷ []) 2)
    ∷ regulator (ticket 5 (4 ∷ 4 ∷ 0 ∷ 0 ∷ 1 ∷ []) 7)
    ∷ orders (bytes (ticket 7 (0 ∷ 4 ∷ 0 ∷ 0 ∷ 1 ∷ []) 2))
    ∷ orders (bytes (ticket 3 (0 ∷ 1 ∷ 1 ∷ 0 ∷ 0 ∷ 2 ∷ 1 ∷ []) 4))
    ∷ []

-- a record's words of the example
abbrev pub row : ℕ → ℕ → ℕ → ℕ → ℕ → ℕ → List ℕ
row i δ μ q₀ q₁ p₀ = word 5 i ∷ word 6 0 ∷ word 7 δ ∷ word 10 0 ∷ word 11 μ ∷ word 8 q₀ ∷ word 8 q₁ ∷ word 9 p₀ ∷ []

abbrev pub rows : List ℕ
rows = row 1 0 7 1 0 0 ++ (row 2 2 6 1 1 1 ++ (row 3 3 5 0 1 1 ++ (row 4 4 4 2 1 0 ++ (row 5 5 3 0 1 2 ++ row 6 6 2 1 1 2))))

abbrev pub printed : List (List (List ℕ))
printed =
    -- 1. found 1 1 2
    ((0 ∷ 1 ∷ 1 ∷ 2 ∷ []) ∷ [])
    -- 2. unit p = x^7+2x^6+2x^5+x^4+x³+2x²+1, s = x^5+2x^4+2x³+2x²+x, in lists of 8 places
    ∷ ((0 ∷ 7 ∷ 6 ∷ 1 ∷ []) ∷ (1 ∷ 0 ∷ 2 ∷ 1 ∷ 1 ∷ 2 ∷ 2 ∷ 1 ∷ []) ∷ (0 ∷ 1 ∷ 2 ∷ 2 ∷ 2 ∷ 1 ∷ 0 ∷ 0 ∷ []) ∷ replicate 8 0 ∷ replicate 8 0 ∷ [])
    -- 3. spent 5 6
    ∷ ((11 ∷ 5 ∷ 6 ∷ []) ∷ [])
    -- 4. spent 0 0
    ∷ ((11 ∷ 0 ∷ 0 ∷ []) ∷ [])
    -- 5. found 2 1 3
    ∷ ((0 ∷ 2 ∷ 1 ∷ 3 ∷ []) ∷ [])
    -- 6. 7
    ∷ ((7 ∷ []) ∷ [])
    -- 7. 7
    ∷ ((7 ∷ []) ∷ [])
    -- 8. 2
    ∷ ((2 ∷ []) ∷ [])
    -- 9. Q = x+1, P = 2, f = 0, distance 6
    ∷ ((0 ∷ []) ∷ (1 ∷ 1 ∷ []) ∷ (2 ∷ []) ∷ (0 ∷ 0 ∷ []) ∷ (0 ∷ 6 ∷ []) ∷ [])
    -- 10. Q = 1, P = 0, f = −1, distance 7
    ∷ ((0 ∷ []) ∷ (1 ∷ []) ∷ [] ∷ (1 ∷ 1 ∷ []) ∷ (0 ∷ 7 ∷ []) ∷ [])
    -- "Later places keep what they had"
    ∷ ((0 ∷ 7 ∷ 6 ∷ 1 ∷ []) ∷ (1 ∷ 0 ∷ 2 ∷ 1 ∷ 1 ∷ 2 ∷ 2 ∷ 1 ∷ 9 ∷ []) ∷ (0 ∷ 1 ∷ 2 ∷ 2 ∷ 2 ∷ 1 ∷ 0 ∷ 0 ∷ 9 ∷ []) ∷ (replicate 8 0 ++ (9 ∷ [])) ∷ (replicate 8 0 ++ (9 ∷ [])) ∷ [])
    -- "7 places are refusal 12"; "Lent lists keep every word"
    ∷ ((12 ∷ []) ∷ replicate 7 9 ∷ replicate 7 9 ∷ replicate 7 9 ∷ replicate 7 9 ∷ [])
    -- "A listing of 48 words serves the ticket above"
    ∷ ((0 ∷ 7 ∷ 6 ∷ 1 ∷ []) ∷ rows ∷ [])
    -- "Words past the last record are untouched."
    ∷ ((0 ∷ 7 ∷ 6 ∷ 1 ∷ []) ∷ (rows ++ (9 ∷ [])) ∷ [])
    -- "47 is 13"; "Lent lists keep every word"
    ∷ ((13 ∷ []) ∷ replicate 47 9 ∷ [])
    -- the printed example
    ∷ (ascii "found 7 6 1\n1 0 7 1 0 0\n2 2 6 1 1 1\n3 3 5 0 1 1\n4 4 4 2 1 0\n5 5 3 0 1 2\n6 6 2 1 1 2\n" ∷ [])
    -- R-3, "the unit's p is monic": x^4 + x modulo 5, with p_1 = 2x³ + 1 and s_1 = 2x, has p = x³ + 3, s = x and
    -- c = 1/4; x^4 + 4x modulo 7, with p_1 = 4x³ + 1 and s_1 = 4x, has p = x³ + 2, s = x and c = 1/16
    ∷ ((0 ∷ 3 ∷ 2 ∷ 4 ∷ []) ∷ (3 ∷ 0 ∷ 0 ∷ 1 ∷ []) ∷ (0 ∷ 1 ∷ 0 ∷ 0 ∷ []) ∷ replicate 4 0 ∷ replicate 4 0 ∷ [])
    ∷ ((0 ∷ 3 ∷ 2 ∷ 4 ∷ []) ∷ (2 ∷ 0 ∷ 0 ∷ 1 ∷ []) ∷ (0 ∷ 1 ∷ 0 ∷ 0 ∷ []) ∷ replicate 4 0 ∷ replicate 4 0 ∷ [])
    -- "This alters .. the found answer and the program's first line": x^4 + x modulo 7 has c = 1/4; x^4 + 4x + 4
    -- modulo 5, with an odd m, has c = 2, where (−1)^m·Q_m is 3
    ∷ ((0 ∷ 3 ∷ 2 ∷ 2 ∷ []) ∷ [])
    ∷ ((0 ∷ 8 ∷ 7 ∷ 2 ∷ []) ∷ [])
    ∷ (ascii "found 3 2 4\n1 0 3 1 0 0\n2 2 2 0 1 0\n" ∷ [])
    -- R-6, "The mirror becomes R less the distance plus deg Q": x^6 + 2x^5 + x² + x modulo 3 has a Q of each degree
    -- from 0 to g; its records 2 and 4 are conjugates, and record 3 is its own
    ∷ (ascii "found 7 4 1\n1 0 7 1 0 0 0 0\n2 3 6 1 0 1 1 0\n3 4 4 0 1 0 0 0\n4 6 3 1 0 1 2 0\n" ∷ [])
    ∷ []

pub marked : map answer_to jobs ≡ printed
unfolding inverse inverse_in fits trim size deg pad zip add sub scale mul lead put divide quo rem monic gcd gcd_in bezout bezout_in times times_from derivative monomial root root_in odd_prime no_divisor kind value word high low joined same some_not one_of genus ticket_of wrong_head wrong_prime wrong_degree later_kinds wrong_layout wrong_coefficient wrong_lead not_squarefree first_of tests_of refusal_of partial next_p next steps walk p_before s_before constant? first_from quasi_period degree_before over_lead unit_of signed_q constant_of said root_of outcome_of words_outcome regulator_of long_enough written unit_lists unit_from unit_answer ideal_of mirror_of record_words entry_of record_of records_from listing_of listing_from listing_answer record_at distance_at product_of reduced_from turns_of degree_sum shift_of is_pair wrong_pair wrong_distance giant_done giant_refused giant_answer ascii decimal decimal_in spaced line words_of read_bytes cut_word first_line record_line record_lines answer_lines program_of
marked = refl
