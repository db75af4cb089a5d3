-- The proofs of specs/Lengths.
use Rattle.std.specs.Prelude.{refl}
use Rattle.spec_arithmetic.specs.Field.{inverse, inverse_in, fits}
use Rattle.spec_arithmetic.specs.Polynomials.{trim, size, deg, zip, sub, scale, lead, put, divide, rem, monic, gcd, gcd_in, times, times_from, derivative}
use Rattle.spec_arithmetic.specs.Primes.{odd_prime, no_divisor}
use Rattle.spec_arithmetic.specs.Words.{kind, value, word, same, some_not, one_of}
use Rattle.spec_definitions.specs.Ticket.{ticket_of, wrong_head, wrong_prime, wrong_degree, later_kinds, wrong_layout, wrong_coefficient, wrong_lead, not_squarefree, first_of, tests_of, refusal_of}
use Rattle.spec_definitions.specs.Walk.{p_before, first_from, quasi_period, degree_before}
use Rattle.spec_definitions.specs.Answers.{said, outcome_of, words_outcome}
use Rattle.spec_definitions.specs.Listing.{listing_from, listing_answer}
use Rattle.spec_definitions.specs.Text.{ascii, decimal, decimal_in, spaced, line}
use Rattle.spec_definitions.specs.Program.{words_of, read_bytes, cut_word, first_line, answer_lines, program_of}
use Rattle.spec_printed.specs.Lengths.{Lengths}

-- ---- the proof
pub lengths : Lengths
unfolding inverse inverse_in fits trim size deg zip sub scale lead put divide rem monic gcd gcd_in times times_from derivative odd_prime no_divisor kind value word same some_not one_of ticket_of wrong_head wrong_prime wrong_degree later_kinds wrong_layout wrong_coefficient wrong_lead not_squarefree first_of tests_of refusal_of p_before first_from quasi_period degree_before said outcome_of words_outcome listing_from listing_answer ascii decimal decimal_in spaced line words_of read_bytes cut_word first_line answer_lines program_of
lengths = (refl, refl, refl, refl, refl)
