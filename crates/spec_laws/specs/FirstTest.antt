-- Tests that apply or do not: those on D; the laws of `first_of`, where the first of numbered tests that applies gives
-- its number, and 0 says that none does.
use Rattle.std.specs.Prelude.{ℕ, suc, ◌≡◌, refl, Bool, true, false, List, [], ◌∷◌, ◌++◌}
use Rattle.std.proofs.Common.{arith}
use Rattle.spec_arithmetic.specs.Field.{FieldName}
use Rattle.spec_definitions.specs.Ticket.{wrong_coefficient, wrong_lead, not_squarefree, first_of}

-- the tests of a ticket on D
unfoldable pub radicand_tests : FieldName → ℕ → List ℕ → List (ℕ × Bool)
radicand_tests f n D = (5, wrong_coefficient f D) ∷ (6, wrong_lead n D) ∷ (7, not_squarefree f D) ∷ []

pub first_applies : (k : ℕ) (l : List (ℕ × Bool)) {t : Bool} → t ≡ true → first_of ((k, t) ∷ l) ≡ k
unfolding first_of
first_applies k l e = rw (first_of, e)

pub first_passes : (k : ℕ) (l : List (ℕ × Bool)) {t : Bool} → t ≡ false → first_of ((k, t) ∷ l) ≡ first_of l
unfolding first_of
first_passes k l e = rw (first_of, e)

pub first_nil : first_of [] ≡ 0
unfolding first_of
first_nil = refl

-- none of the tests applies
pub first_none : (k : ℕ) (t : Bool) (l : List (ℕ × Bool)) → first_of ((suc k, t) ∷ l) ≡ 0 → (t ≡ false) × (first_of l ≡ 0)
unfolding first_of
first_none k true l e = absurd (omega arith)
first_none k false l e = (refl, e)

-- one of the first tests applies
pub first_some : (l m : List (ℕ × Bool)) → (first_of l ≡ 0 → ⊥) → first_of (l ++ m) ≡ first_of l
unfolding first_of
first_some [] m h = absurd (h refl)
first_some ((k, true) ∷ l) m h = refl
first_some ((k, false) ∷ l) m h = first_some l m h
