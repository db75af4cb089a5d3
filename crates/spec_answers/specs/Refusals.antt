-- T1 at the level of the answers: a call answers `refused k` exactly where sentence k is the first that
-- applies, for every number k: 1 to 7 of any list of words, then 9 and 10, and after the input the state's
-- 11, 12 and 13. 11 comes before 12 and 13: where the walk is spent, a lent list may have any length.
use Prim.Native.Nat.{ℕ, suc, ◌+◌, ◌*◌, ◌≤◌, ◌<◌}
use Rattle.std.specs.Prelude.{◌≡◌, ◌↔◌, ◌≢◌, ◌⊎◌, List, [], length}
use Rattle.spec_arithmetic.specs.Field.{FieldName, ops}
use Rattle.spec_arithmetic.specs.Polynomials.{root}
use Rattle.spec_definitions.specs.Ticket.{ticket_of}
use Rattle.spec_definitions.specs.Walk.{Ideal}
use Rattle.spec_definitions.specs.Answers.{found, spent, refused, Said, said, root_of, words_outcome, regulator_of}
use Rattle.spec_definitions.specs.Units.{Lists, unit_answer}
use Rattle.spec_definitions.specs.Listing.{listing_answer}
use Rattle.spec_definitions.specs.Lookup.{lookup_of, place_of}
use Rattle.spec_definitions.specs.Products.{product_answer, giant_answer}
use Rattle.spec_laws.specs.Admitted.{Admitted}
use Rattle.spec_sentences.specs.Sentences.{Applies}
use Rattle.spec_refusals.specs.Pairs.{WrongPair, WrongDistance}
use Rattle.spec_refusals.specs.Lookups.{WrongListing}
use Rattle.spec_refusals.specs.LentLists.{Short}
use Rattle.spec_demands.specs.Continued.{StopsAt, Spends}

-- sentence k is the first of 1 to 7 that applies to the words
abbrev pub First : ℕ → List ℕ → Type 0
First k w = (1 ≤ k) × (k ≤ 7) × Applies k w × ((j : ℕ) → 1 ≤ j → j < k → ¬ Applies j w)

-- none of them applies
abbrev pub None : List ℕ → Type 0
None w = (j : ℕ) → 1 ≤ j → j ≤ 7 → ¬ Applies j w

-- the walk of the words' ticket stops within the budget, with R, m and c; it is spent after k steps, at the
-- degree e
abbrev pub Stops : List ℕ → ℕ → ℕ → ℕ → Type 0
Stops w R m c = StopsAt (ticket_of w).field (ticket_of w).D (root_of (ticket_of w)) (ticket_of w).b R m c

abbrev pub Spent : List ℕ → ℕ → ℕ → Type 0
Spent w k e = Spends (ticket_of w).field (ticket_of w).D (root_of (ticket_of w)) (ticket_of w).b k e

-- "12: the unit is wanted and one of its four lists has fewer than R+1 places"
abbrev pub TwelveApplies : List ℕ → Lists → Type 0
TwelveApplies w l = (R : ℕ) × (m : ℕ) × (c : ℕ) × Stops w R m c × Short (suc R) l

-- "13: the listing is wanted and its list has fewer than m·(n+4) words"
abbrev pub ThirteenApplies : List ℕ → List ℕ → Type 0
ThirteenApplies w l = (R : ℕ) × (m : ℕ) × (c : ℕ) × Stops w R m c × (length l < m * ((ticket_of w).n + 4))

-- "Refused because of the input: Tested in this order; the first that applies is returned."; "Refused because
-- of the state: Tested after the input."
pub record T1Answers : Type 0 where
  pub regulator : (w : List ℕ) (k : ℕ) → (regulator_of w ≡ said (refused k)) ↔ First k w
  pub unit : (w : List ℕ) (l : Lists) (k : ℕ) → ((unit_answer w l).says ≡ said (refused k)) ↔ (First k w ⊎ ((k ≡ 12) × None w × TwelveApplies w l))
  pub listing : (w l : List ℕ) (k : ℕ) → ((listing_answer w l).says ≡ said (refused k)) ↔ (First k w ⊎ ((k ≡ 13) × None w × ThirteenApplies w l))
  -- "11 (regulator, unit and listing): spent; the quasi-period m is above b. Carries the steps made, b, and
  -- the degree reached.": whatever lists are lent
  pub regulator_spent : (w : List ℕ) (k e : ℕ) → (regulator_of w ≡ said (spent k e)) ↔ (None w × Spent w k e)
  pub unit_spent : (w : List ℕ) (l : Lists) (k e : ℕ) → ((unit_answer w l).says ≡ said (spent k e)) ↔ (None w × Spent w k e)
  pub listing_spent : (w l : List ℕ) (k e : ℕ) → ((listing_answer w l).says ≡ said (spent k e)) ↔ (None w × Spent w k e)
  -- 0 is no refusal: it says that the product, or the giant step, is there
  pub product : (w : List ℕ) (x y : Ideal ℕ) (k : ℕ) → k ≢ 0 → ((product_answer w x y).number ≡ k) ↔ (First k w ⊎ ((k ≡ 9) × None w × WrongPair (ticket_of w) x y))
  pub giant_step : (w : List ℕ) (x : Ideal ℕ) (d : ℕ) (y : Ideal ℕ) (e k : ℕ) → k ≢ 0 → ((giant_answer w x d y e).number ≡ k) ↔ (First k w ⊎ ((k ≡ 9) × None w × WrongPair (ticket_of w) x y) ⊎ ((k ≡ 10) × None w × (¬ WrongPair (ticket_of w) x y) × WrongDistance d e))
  -- "Lookup has only refusal 8 and shows it by the empty part at the start of its list, with no number."
  pub lookup : (l : List ℕ) (n y : ℕ) → (lookup_of l n y ≡ []) ↔ WrongListing l n
  pub lookup_start : (l : List ℕ) (n y : ℕ) → WrongListing l n → place_of l n y ≡ 0

-- ---- an outcome is told by the walk
module _ {f : FieldName} {g : ℕ} {D : List ℕ} (h : Admitted f g D) (b : ℕ) where
  abbrev d : List ℕ
  d = root (ops f) D (suc g)

-- ---- a call that lends lists: its answer says `says`; `Lacks R m` says that the lists are too short for what is found, and `number` is then the refusal
pub record Lends (w : List ℕ) (says : Said) (number : ℕ) (Lacks : ℕ → ℕ → Type 0) : Type 0 where
  pub stable : (R m : ℕ) → ¬ ¬ Lacks R m → Lacks R m
  pub short : (R m c : ℕ) → words_outcome w ≡ found R m c → Lacks R m → says ≡ said (refused number)
  pub enough : (R m c : ℕ) → words_outcome w ≡ found R m c → ¬ Lacks R m → says ≡ said (found R m c)
  pub other : ((R m c : ℕ) → words_outcome w ≢ found R m c) → says ≡ said (words_outcome w)
