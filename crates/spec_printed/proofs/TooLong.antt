-- The proofs of specs/TooLong.
use Rattle.std.specs.Prelude.{ℕ, ◌+◌, ◌*◌, ◌≤◌, ◌<◌, ◌≡◌, refl, List, ◌++◌, length, drop, replicate}
use Rattle.std.proofs.Common.{sym, subst, le-leb}
use Rattle.std.proofs.lemmas.List.{length-replicate}
use Rattle.std.proofs.lemmas.Bool.{lt-leb}
use Rattle.spec_arithmetic.specs.Field.{inverse, inverse_in, fits}
use Rattle.spec_arithmetic.specs.Polynomials.{trim, size, deg, zip, add, sub, scale, mul, lead, put, divide, quo, rem, monic, gcd, gcd_in, times, times_from, derivative, monomial, root, root_in}
use Rattle.spec_arithmetic.specs.Primes.{odd_prime, no_divisor}
use Rattle.spec_arithmetic.specs.Words.{kind, value, word, same, some_not, one_of}
use Rattle.spec_definitions.specs.Ticket.{Ticket, genus, ticket_of, wrong_head, wrong_prime, wrong_degree, later_kinds, wrong_layout, wrong_coefficient, wrong_lead, not_squarefree, first_of, tests_of, refusal_of}
use Rattle.spec_definitions.specs.Walk.{partial, next_p, next, steps, walk, p_before, constant?, first_from, quasi_period, degree_before, over_lead, signed_q, constant_of}
use Rattle.spec_definitions.specs.Answers.{found, refused, said, root_of, outcome_of, words_outcome}
use Rattle.spec_definitions.specs.Listing.{listing_of, listing_from, listing_answer}
use Rattle.spec_definitions.specs.Text.{ascii, decimal, decimal_in, spaced, line}
use Rattle.spec_definitions.specs.Program.{first_line, answer_lines, program_of}
use Rattle.spec_printed.specs.TooLong.{words_read, TooLong, Fits, Shorter}

-- ---- the proof
no_room : (t : Ticket) (l : List ℕ) (R m c : ℕ) → length l < m * (t.n + 4) → listing_from t (found R m c) l ≡ record { says = said (refused 13); list = l }
unfolding listing_from
no_room t l R m c h = rw (listing_from, lt-leb (m * (t.n + 4)) (length l) h)

pub too_long : TooLong
unfolding program_of listing_answer answer_lines first_line said line spaced decimal decimal_in ascii
too_long input whole R m c e h =
    let lent : List ℕ = replicate 8192 0 in
    let k : length lent < m * ((ticket_of (words_read input)).n + 4) = subst (λ (i : ℕ). i < m * ((ticket_of (words_read input)).n + 4)) (sym (length-replicate {A = ℕ} 8192 0)) h in
    rw (program_of, whole, e, no_room (ticket_of (words_read input)) lent R m c k)

enough : (t : Ticket) (l : List ℕ) (R m c : ℕ) → m * (t.n + 4) ≤ length l → listing_from t (found R m c) l ≡ record { says = said (found R m c); list = listing_of t R m ++ drop (m * (t.n + 4)) l }
unfolding listing_from
enough t l R m c h = rw (listing_from, le-leb (m * (t.n + 4)) (length l) h)

pub fits_lent : Fits
unfolding program_of listing_answer
fits_lent input whole R m c e h =
    let lent : List ℕ = replicate 8192 0 in
    let k : m * ((ticket_of (words_read input)).n + 4) ≤ length lent = subst (λ (i : ℕ). m * ((ticket_of (words_read input)).n + 4) ≤ i) (sym (length-replicate {A = ℕ} 8192 0)) h in
    rw (program_of, whole, e, enough (ticket_of (words_read input)) lent R m c k)

pub shorter : Shorter
unfolding inverse inverse_in fits trim size deg zip add sub scale mul lead put divide quo rem monic gcd gcd_in times times_from derivative monomial root root_in odd_prime no_divisor kind value word same some_not one_of genus ticket_of wrong_head wrong_prime wrong_degree later_kinds wrong_layout wrong_coefficient wrong_lead not_squarefree first_of tests_of refusal_of partial next_p next steps walk p_before constant? first_from quasi_period degree_before over_lead signed_q constant_of said root_of outcome_of words_outcome listing_from listing_answer ascii decimal decimal_in spaced line first_line answer_lines
shorter = refl
