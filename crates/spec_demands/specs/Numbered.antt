-- The number of an answer tells its case: 0 says found and 11 says spent, and no refusal has either of them.
-- It holds of the calls `regulator`, `unit` and `listing`.
use Rattle.std.specs.Prelude.{ℕ, ◌≡◌, List}
use Rattle.spec_definitions.specs.Answers.{Outcome, refused, said, regulator_of}
use Rattle.spec_definitions.specs.Units.{Lists, unit_answer}
use Rattle.spec_definitions.specs.Listing.{listing_answer}

-- x is not a refusal with the number of an answer found or spent
pub record Numbered (x : Outcome) : Type 0 where
  pub not_zero : x ≡ refused 0 → ⊥
  pub not_eleven : x ≡ refused 11 → ⊥

-- an outcome that a call says is numbered
abbrev pub T1Numbers : Type 0
T1Numbers =
    ((w : List ℕ) (x : Outcome) → regulator_of w ≡ said x → Numbered x)
    × ((w : List ℕ) (l : Lists) (x : Outcome) → (unit_answer w l).says ≡ said x → Numbered x)
    × ((w l : List ℕ) (x : Outcome) → (listing_answer w l).says ≡ said x → Numbered x)
