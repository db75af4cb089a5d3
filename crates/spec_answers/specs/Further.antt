-- A call with one refusal of its own after the ticket's: its answer is the words' refusal, or else its own where a test
-- says so, or else what is done. It is refused by k exactly where sentence k is the first that applies, or k is the
-- call's own number and the tested statement holds.
use Rattle.std.specs.Prelude.{ℕ, zero, suc, Bool, true, false}

module _ {A : Type 0} (refused : ℕ → A) (own : ℕ) (done : A) where
  -- past the words' refusals, by the test
  abbrev pub tested : Bool → A
  tested b = elim b [ true ↦ refused own | false ↦ done ]

  -- the answer by the number of the words' refusal and the test
  abbrev pub answered : ℕ → Bool → A
  answered k b = elim k [ zero ↦ tested b | suc j ↦ refused (suc j) ]
