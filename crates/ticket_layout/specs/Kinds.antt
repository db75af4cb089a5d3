-- The kinds of words, where P says which kind a place may have.
use Rattle.std.specs.Prelude.{ℕ, ◌<◌, ◌≡◌, refl, Bool, true, false, not, IsTrue, IsFalse, List, map, length, get_or}
use Rattle.std.proofs.Common.{sym, ap, ◌∙◌}
use Rattle.spec_arithmetic.specs.Words.{kind, same}
use Rattle.spec_lists.specs.Kinds.{kinds_right, kinds_wrong}
use Rattle.spec_laws.specs.Layout.{later_coefficient, later_budget, later_end}
use Rattle.base_words.specs.declared.WordKind.{WordKind}
use Rattle.base_words.specs.WordKind.{number_of}

-- the kinds of the words after the first two, part by part
pub ruleset later_parts = (later_coefficient, later_budget, later_end)

-- word i has a kind of its place
abbrev pub HasKind : (ℕ → WordKind → Type 0) → List ℕ → ℕ → Type 0
HasKind P w i = (k : WordKind) × P i k × (kind (get_or w i 0) ≡ number_of k)

-- word i has not
abbrev pub LacksKind : (ℕ → WordKind → Type 0) → List ℕ → ℕ → Type 0
LacksKind P w i = (k : WordKind) × P i k × (kind (get_or w i 0) ≡ number_of k → ⊥)

-- where P says of each place the kind that a list has there, a test by P is the test against the list
module _ {P : ℕ → WordKind → Type 0} (w kinds : List ℕ) (says : (i : ℕ) (k : WordKind) → i < length w → P i k → number_of k ≡ get_or kinds i 0) (all : length w ≡ length kinds) where
  pub kinds_test : (r : Bool) → (IsTrue r → (i : ℕ) × (i < length w) × LacksKind P w i) → (IsFalse r → (i : ℕ) → i < length w → HasKind P w i) → r ≡ not (same (map kind w) kinds)
  kinds_test true wrong right =
      let (i, h, (k, p, other)) = wrong refl in
      sym (ap not (kinds_wrong w kinds i (λ e. other (e ∙ sym (says i k h p)))))
  kinds_test false wrong right =
      sym (ap not (kinds_right w kinds all (λ i h. let (k, p, e) = right refl i h in e ∙ says i k h p)))
