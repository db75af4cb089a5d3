-- T1: the number that the definitions give to a ticket is that of the paper's first sentence that applies,
-- and 0 where none does.
-- Each test is true exactly where its sentence applies, given that no sentence before it does.
use Rattle.std.specs.Prelude.{ℕ, ◌≤◌, ◌<◌, ◌≡◌, ◌↔◌, List}
use Rattle.spec_definitions.specs.Ticket.{refusal_of}
use Rattle.spec_sentences.specs.Sentences.{Applies}

-- k is refused exactly where sentence k applies and none from 1 below k does; nothing is refused exactly
-- where none of the seven applies
pub record FirstApplies (w : List ℕ) : Type 0 where
  pub refused : (k : ℕ) → 1 ≤ k → k ≤ 7 → (refusal_of w ≡ k) ↔ (Applies k w × ((j : ℕ) → 1 ≤ j → j < k → ¬ Applies j w))
  pub accepted : (refusal_of w ≡ 0) ↔ ((j : ℕ) → 1 ≤ j → j ≤ 7 → ¬ Applies j w)

abbrev pub T1 : Type 0
T1 = (w : List ℕ) → FirstApplies w
