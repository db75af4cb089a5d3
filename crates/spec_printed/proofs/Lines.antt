-- The proofs of specs/Lines.
use Rattle.std.specs.Prelude.{refl}
use Rattle.spec_arithmetic.specs.Field.{inverse, inverse_in, fits}
use Rattle.spec_arithmetic.specs.Polynomials.{trim, size, deg, zip, add, sub, scale, mul, lead, put, divide, quo, rem, monic, gcd, gcd_in, times, times_from, derivative, monomial, root, root_in}
use Rattle.spec_arithmetic.specs.Primes.{odd_prime, no_divisor}
use Rattle.spec_arithmetic.specs.Words.{kind, value, word, same, some_not, one_of}
use Rattle.spec_definitions.specs.Ticket.{genus, ticket_of, wrong_head, wrong_prime, wrong_degree, later_kinds, wrong_layout, wrong_coefficient, wrong_lead, not_squarefree, first_of, tests_of, refusal_of}
use Rattle.spec_definitions.specs.Walk.{partial, next_p, next, steps, walk, p_before, constant?, first_from, quasi_period, degree_before}
use Rattle.spec_definitions.specs.Answers.{said, root_of, outcome_of, words_outcome}
use Rattle.spec_definitions.specs.Listing.{listing_from, listing_answer}
use Rattle.spec_definitions.specs.Text.{ascii, decimal, decimal_in, spaced, line}
use Rattle.spec_definitions.specs.Program.{words_of, read_bytes, cut_word, first_line, answer_lines, program_of}
use Rattle.spec_printed.specs.Lines.{Spent, Refused, Cut}

-- ---- the proof
pub spent_lines : Spent
unfolding inverse inverse_in fits trim size deg zip add sub scale mul lead put divide quo rem monic gcd gcd_in times times_from derivative monomial root root_in odd_prime no_divisor kind value word same some_not one_of genus ticket_of wrong_head wrong_prime wrong_degree later_kinds wrong_layout wrong_coefficient wrong_lead not_squarefree first_of tests_of refusal_of partial next_p next steps walk p_before constant? first_from quasi_period degree_before said root_of outcome_of words_outcome listing_from listing_answer ascii decimal decimal_in spaced line words_of read_bytes cut_word first_line answer_lines program_of
spent_lines = (refl, refl)

pub refused_lines : Refused
unfolding inverse inverse_in fits trim size zip sub scale lead put divide rem monic gcd gcd_in times times_from derivative odd_prime no_divisor kind value word same some_not one_of ticket_of wrong_head wrong_prime wrong_degree later_kinds wrong_layout wrong_coefficient wrong_lead not_squarefree first_of tests_of refusal_of said words_outcome listing_from listing_answer ascii decimal decimal_in spaced line words_of read_bytes cut_word first_line answer_lines program_of
refused_lines = (refl, refl)

pub cut_lines : Cut
unfolding odd_prime no_divisor kind value word same one_of ticket_of wrong_head wrong_prime wrong_degree later_kinds wrong_layout first_of tests_of refusal_of said words_outcome listing_from listing_answer ascii decimal decimal_in spaced line words_of read_bytes cut_word first_line answer_lines program_of
cut_lines = (refl, refl, refl, refl, refl)
