-- T1 tells one number: a number that is k exactly where sentence k is the first that applies, and 0 exactly
-- where none does, is the refusal of the words.
use Rattle.std.specs.Prelude.{ℕ, ◌≤◌, ◌<◌, ◌≡◌, ◌↔◌, List}
use Rattle.spec_definitions.specs.Ticket.{refusal_of}
use Rattle.spec_sentences.specs.Sentences.{Applies}

-- what T1 says of the refusal, said of any number r
pub record Tells (w : List ℕ) (r : ℕ) : Type 0 where
  pub refused : (k : ℕ) → 1 ≤ k → k ≤ 7 → (r ≡ k) ↔ (Applies k w × ((j : ℕ) → 1 ≤ j → j < k → ¬ Applies j w))
  pub accepted : (r ≡ 0) ↔ ((j : ℕ) → 1 ≤ j → j ≤ 7 → ¬ Applies j w)

abbrev pub RefusalOnly : Type 0
RefusalOnly = (w : List ℕ) (r : ℕ) → Tells w r → r ≡ refusal_of w
