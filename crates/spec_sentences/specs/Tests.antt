-- Tests and what they say: a test is true exactly where a statement holds. The first true test of a list is
-- the first statement that holds.
use Rattle.std.specs.Prelude.{ℕ, suc, ◌≤◌, ◌<◌, ◌≡◌, ◌↔◌, ◌⊎◌, Bool, List, [], ◌∷◌}
use Rattle.std.proofs.Math.Bool.{true}

-- the test b is true exactly where P holds
abbrev pub Tests : Bool → Type 0 → Type 0
Tests b P = (b ≡ true) ↔ P

-- ---- the first of several statements that holds
module _ (P : ℕ → Type 0) where
  -- none from 1 below k holds
  abbrev pub NoneBelow : ℕ → Type 0
  NoneBelow k = (j : ℕ) → 1 ≤ j → j < k → ¬ P j

  -- k is the first that holds
  abbrev pub First : ℕ → Type 0
  First k = P k × NoneBelow k

  -- the tests are numbered from k; each is that of its statement, where none before that holds
  infixr 5 ◌then◌
  pub data Numbered : ℕ → List (ℕ × Bool) → Type 0 where
    end : {k : ℕ} → Numbered k []
    ◌then◌ : {k : ℕ} {b : Bool} {l : List (ℕ × Bool)} → (NoneBelow k → Tests b (P k)) → Numbered (suc k) l → Numbered k ((k, b) ∷ l)

  -- r is the number of the first statement that holds, of those from 1 below k, or 0 where none does
  abbrev pub Answers : ℕ → ℕ → Type 0
  Answers k r = ((r ≡ 0) × NoneBelow k) ⊎ ((1 ≤ r) × (r < k) × First r)
