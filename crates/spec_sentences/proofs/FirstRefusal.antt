-- The proofs of specs/FirstRefusal.
use Rattle.std.specs.Prelude.{ℕ, ◌+◌, ◌<◌, ◌≡◌, refl, List, length}
use Rattle.std.proofs.Common.{arith, ◌∙◌, inl}
use Rattle.spec_definitions.specs.Ticket.{ticket_of, tests_of, refusal_of, not_squarefree}
use Rattle.spec_bridge.specs.Prime.{OddPrime, odd_prime_true, prime_odd_prime}
use Rattle.spec_fields.specs.Named.{IsField, arithmetic}
use Rattle.spec_laws.specs.Admitted.{field_of}
use Rattle.spec_sentences.specs.Sentences.{q, field, n, D, coefficient, Applies, NotSquarefree}
use Rattle.spec_sentences.specs.Tests.{Tests, NoneBelow, Numbered, end, ◌then◌, Answers}
use Rattle.spec_sentences.proofs.Tests.{tests_eq, tests_none, tests_stable, first_of_answers, answer_first, answer_none}
use Rattle.spec_sentences.proofs.Readings.{prime_allowed, tests_head, tests_prime, tests_degree, tests_layout, tests_coefficient, tests_lead, coefficient_at, length_D}
use Rattle.spec_sentences.proofs.Squares.{tests_square}
use Rattle.spec_sentences.specs.FirstRefusal.{T1}

module _ (w : List ℕ) where
  abbrev P : ℕ → Type 0
  P k = Applies k w

  -- what the sentences before 7 leave
  prime : NoneBelow P 7 → OddPrime (q w)
  unfolding Applies
  prime none = tests_stable (odd_prime_true (q w), prime_odd_prime (q w)) (λ h. none 2 (omega arith) (omega arith) (λ a. h ((prime_allowed (q w)).1 a)))

  is : NoneBelow P 7 → IsField (field w)
  is none = field_of (field w) (tests_none (tests_prime w) (λ h. h ((prime_allowed (q w)).0 (prime none))))

  words : (k : ℕ) → 4 < k → NoneBelow P k → length w ≡ n w + 5
  unfolding Applies
  words k l none = tests_stable (tests_eq (length w) (n w + 5)) (λ h. none 4 (omega arith) l (inl h))

  lead : NoneBelow P 7 → coefficient w (n w) ≡ 1
  unfolding Applies
  lead none = tests_stable (tests_eq (coefficient w (n w)) 1) (λ h. none 6 (omega arith) (omega arith) h)

  tests_squarefree : NoneBelow P 7 → Tests (not_squarefree (field w) (D w)) (NotSquarefree w)
  tests_squarefree none = tests_square (field w) (arithmetic (field w) (is none)) (D w) (n w) (omega (arith, length_D w (words 7 (omega arith) none))) (coefficient_at w (n w) (omega arith) ∙ lead none)

  numbered : Numbered P 1 (tests_of (ticket_of w) w)
  unfolding tests_of ticket_of Applies
  numbered =
      (λ _. tests_head w)
      then (λ _. tests_prime w)
      then (λ _. tests_degree w)
      then (λ _. tests_layout w)
      then (λ none. tests_coefficient w (words 5 (omega arith) none))
      then (λ _. tests_lead w)
      then tests_squarefree
      then end

  answer : Answers P 8 (refusal_of w)
  unfolding refusal_of
  answer = first_of_answers P numbered 8 (unfold tests_of in refl) (omega arith) (λ j low high. absurd (omega arith))

pub t1 : T1
t1 w = record { refused = λ k low high. answer_first (P w) (answer w) k low (omega arith); accepted = (λ e j low high. (answer_none (P w) (answer w)).0 e j low (omega arith), λ none. (answer_none (P w) (answer w)).1 (λ j low high. none j low (omega arith))) }
