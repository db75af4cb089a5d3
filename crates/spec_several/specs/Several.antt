-- R-1, integer polynomials at several primes: what the words of the new ticket say, its refusals 14 and 3, the
-- single job of each prime, and the outcomes of any list of words.
use Rattle.std.specs.Prelude.{ℕ, zero, suc, ◌+◌, ◌-◌, ◌%◌, Bool, true, false, not, ◌||◌, List, [], ◌∷◌, ◌++◌, map, ltb, eqb, length, get_or, take, drop, replicate}
use Rattle.spec_arithmetic.specs.Field.{prime, modulo}
use Rattle.spec_arithmetic.specs.Words.{values, kind, value, same}
use Rattle.spec_definitions.specs.Ticket.{Ticket, ticket, ticket_words, wrong_degree, first_of}
use Rattle.spec_definitions.specs.Answers.{Outcome, refused, Said, said, words_outcome}

-- 2^27: a value of 28 bits from here on stands for a negative number
abbrev pub negatives : ℕ
negatives = 134217728

-- "one to sixteen": the most primes of a ticket
abbrev pub most_primes : ℕ
most_primes = 16

-- "A new ticket has kind 2, then n+1 words of kind 12 .., kind 4, one to sixteen words of kind 1, then kind 15":
-- the kinds, with k primes
unfoldable pub several_kinds : ℕ → ℕ → List ℕ
several_kinds n k = 2 ∷ replicate (n + 1) 12 ++ (4 ∷ replicate k 1 ++ (15 ∷ []))

module _ (w : List ℕ) where
  -- "kind 2": n, the value of word 0
  unfoldable pub degree_of : ℕ
  degree_of = value (get_or w 0 0)

  -- the number of primes: there are n+4 other words
  unfoldable pub prime_count : ℕ
  prime_count = length w - (degree_of + 4)

  -- the values of the n+1 words of kind 12, "constant term first"
  unfoldable pub coefficients_of : List ℕ
  coefficients_of = map value (take (degree_of + 1) (drop 1 w))

  -- "kind 4", after the coefficients: the step budget
  unfoldable pub budget_of : ℕ
  budget_of = value (get_or w (degree_of + 2) 0)

  -- "one to sixteen words of kind 1", after the budget: the values of all words from there to the end word
  unfoldable pub primes_of : List ℕ
  primes_of = map value (take prime_count (drop (degree_of + 3) w))

  -- "14, the ticket's shape is wrong": not one to sixteen primes, or a word has the wrong kind, or the last
  -- word isn't "kind 15 with the number of words before it"
  unfoldable pub wrong_shape : Bool
  wrong_shape =
      (ltb (length w) (degree_of + 5) || ltb (degree_of + 4 + most_primes) (length w))
      || not (same (map kind w) (several_kinds degree_of prime_count))
      || not (eqb (value (get_or w (length w - 1) 0)) (length w - 1))

  -- "14, the ticket's shape is wrong, tested first; 2 and 5 to 7 then belong to a prime, 3 to the ticket."
  unfoldable pub several_refusal : ℕ
  several_refusal = first_of ((14, wrong_shape) ∷ (3, wrong_degree degree_of) ∷ [])

-- "28-bit two's complement": the value v stands for v, or for v − 2^28 from 2^27 on; its residue modulo q
unfoldable pub residue : ℕ → ℕ → ℕ
residue q v = elim (ltb v negatives) [ true ↦ v % q | false ↦ (modulo q).sub v values ]

-- "a single regulator job with the reduced coefficients", at the prime q
unfoldable pub job_at : List ℕ → ℕ → Ticket
job_at w q = ticket (prime q) (degree_of w) (map (residue q) (coefficients_of w)) (budget_of w)

-- its words
unfoldable pub job_words : List ℕ → ℕ → List ℕ
job_words w q = ticket_words (job_at w q)

-- "Each prime gets its own outcome, in the ticket's order, the one that a single regulator job with the reduced
-- coefficients would get. A refusal of the ticket is its only outcome. A prime at which D has a square factor is
-- refused by 7 and the rest carry on."
unfoldable pub several_of : List ℕ → List Outcome
several_of w = elim (several_refusal w) [ zero ↦ map (λ q. words_outcome (job_words w q)) (primes_of w) | suc k ↦ refused (suc k) ∷ [] ]

-- the sixteen places of an answer: those past the last outcome hold the refusal 0, which no outcome is
unfoldable pub sixteen_places : List Outcome → List Outcome
sixteen_places l = l ++ replicate (most_primes - length l) (refused 0)

-- the call `regulators`: the number of words, that of outcomes, and what is said in each place
pub record SeveralAnswer : Type 0 where
  pub words : ℕ
  pub count : ℕ
  pub says : List Said

unfoldable pub several_answer : List ℕ → SeveralAnswer
several_answer w = record { words = length w; count = length (several_of w); says = map said (sixteen_places (several_of w)) }
