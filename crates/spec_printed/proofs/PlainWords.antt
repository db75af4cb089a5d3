-- The proofs of specs/PlainWords.
use Rattle.std.specs.Prelude.{refl}
use Rattle.spec_arithmetic.specs.Field.{inverse, inverse_in, fits}
use Rattle.spec_arithmetic.specs.Polynomials.{trim, size, deg, pad, zip, add, sub, scale, mul, lead, put, divide, quo, rem, monic, gcd, gcd_in, times, times_from, derivative, monomial, root, root_in}
use Rattle.spec_arithmetic.specs.Primes.{odd_prime, no_divisor}
use Rattle.spec_arithmetic.specs.Words.{kind, value, word, high, low, joined, same, some_not, one_of}
use Rattle.spec_definitions.specs.Ticket.{genus, ticket_of, wrong_head, wrong_prime, wrong_degree, later_kinds, wrong_layout, wrong_coefficient, wrong_lead, not_squarefree, first_of, tests_of, refusal_of}
use Rattle.spec_definitions.specs.Walk.{partial, next_p, next, steps, walk, p_before, constant?, first_from, quasi_period, degree_before, over_lead, signed_q, constant_of}
use Rattle.spec_definitions.specs.Answers.{said, root_of, outcome_of, words_outcome}
use Rattle.spec_definitions.specs.Listing.{ideal_of, mirror_of, record_words, entry_of, record_of, records_from, listing_of, listing_from, listing_answer}
use Rattle.spec_definitions.specs.Program.{words_of, read_bytes}
use Rattle.spec_printed.specs.PlainWords.{PlainTicket, PlainListing, PlainHighLow}

-- ---- the proof
pub plain_ticket_holds : PlainTicket
unfolding kind value word words_of read_bytes
plain_ticket_holds = (refl, refl, refl, refl)

pub plain_listing_holds : PlainListing
unfolding inverse inverse_in fits trim size deg pad zip add sub scale mul lead put divide quo rem monic gcd gcd_in times times_from derivative monomial root root_in odd_prime no_divisor kind value word high low joined same some_not one_of genus ticket_of wrong_head wrong_prime wrong_degree later_kinds wrong_layout wrong_coefficient wrong_lead not_squarefree first_of tests_of refusal_of partial next_p next steps walk p_before constant? first_from quasi_period degree_before over_lead signed_q constant_of said root_of outcome_of words_outcome ideal_of mirror_of record_words entry_of record_of records_from listing_of listing_from listing_answer
plain_listing_holds = refl

pub plain_high_low : PlainHighLow
unfolding high low joined
plain_high_low = (refl, refl, refl)
