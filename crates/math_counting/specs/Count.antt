-- How many members of a list pass a test, and how many have each line number. A test and its opposite make up
-- the whole list, and so do the counts of all lines.
use Prim.Native.Nat.{ℕ, zero, suc, ◌+◌, ◌≤◌, ◌<◌}
use Rattle.std.specs.Prelude.{◌≡◌, Bool, true, false, not, eqb, length}
use mathlib.Core.List.{List, [], ◌∷◌}
use Rattle.math_counting.specs.Pigeonhole.{In}

module _ {A : Type 0} (p : A → Bool) where
  -- the members that pass the test
  unfoldable pub select : List A → List A
  select [] = []
  select (a ∷ l) = elim (p a) [ true ↦ a ∷ select l | false ↦ select l ]

  -- how many pass it
  abbrev pub count : List A → ℕ
  count l = length (select l)

-- each member passes the test or its opposite
abbrev pub CountOpposite : {A : Type 0} → (A → Bool) → Type 0
CountOpposite {A} p = (l : List A) → count p l + count (λ a. not (p a)) l ≡ length l

-- the sum of a list
unfoldable pub total : List ℕ → ℕ
total [] = 0
total (x ∷ l) = x + total l

module _ {A : Type 0} (f : A → ℕ) where
  -- how many members have the line number j
  abbrev pub tally : List A → ℕ → ℕ
  tally l j = count (λ a. eqb (f a) j) l

  -- how many have each of the line numbers i, i + 1, .., k of them
  unfoldable pub tallies : ℕ → ℕ → List A → List ℕ
  tallies i zero l = []
  tallies i (suc k) l = tally l i ∷ tallies (suc i) k l

  -- where each member has one of the lines, the counts of the lines sum to the length
  abbrev pub TotalTallies : Type 0
  TotalTallies = (i k : ℕ) (l : List A) → ((a : A) → In a l → (i ≤ f a) × (f a < i + k)) → total (tallies i k l) ≡ length l
