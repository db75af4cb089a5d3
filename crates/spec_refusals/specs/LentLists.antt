-- T1, the part on lent lists: refusals 12 and 13 are the paper's sentences; "Lent lists keep every word"
-- where the answer is not found, and where it is, every later place does.
use Rattle.std.specs.Prelude.{ℕ, suc, ◌+◌, ◌*◌, ◌≤◌, ◌<◌, ◌≡◌, ◌≢◌, ◌⊎◌, Bool, List, length, take, drop, replicate}
use Rattle.std.proofs.Math.Dec.{leb}
use Rattle.spec_definitions.specs.Ticket.{Ticket, ticket_of}
use Rattle.spec_definitions.specs.Answers.{Outcome, found, refused, said, words_outcome}
use Rattle.spec_definitions.specs.Units.{Lists, UnitAnswer, unit_answer}
use Rattle.spec_definitions.specs.Listing.{ListingAnswer, listing_of, listing_answer}

-- the list `new` is `old` from place k on
pub record KeepsFrom (k : ℕ) (old new : List ℕ) : Type 0 where
  pub long : length new ≡ length old
  pub later : drop k new ≡ drop k old

-- one of the four lists has fewer than k places
abbrev pub Short : ℕ → Lists → Type 0
Short k l = (length l.first < k) ⊎ (length l.second < k) ⊎ (length l.third < k) ⊎ (length l.fourth < k)

-- x is the outcome of the words, l are the lent lists, r is the answer. `short` is "12: the unit is wanted
-- and one of its four lists has fewer than R+1 places", `cleared` is "In the other two, places 0 to R end as
-- zero", `later` is "Later places keep what they had"
pub record UnitKeeps (x : Outcome) (l : Lists) (r : UnitAnswer) : Type 0 where
  pub short : (R m c : ℕ) → x ≡ found R m c → Short (suc R) l → r.says ≡ said (refused 12)
  pub enough : (R m c : ℕ) → x ≡ found R m c → ¬ Short (suc R) l → r.says ≡ said (found R m c)
  pub other : ((R m c : ℕ) → x ≢ found R m c) → r.says ≡ said x
  pub kept : ((R m c : ℕ) → r.says ≢ said (found R m c)) → r.lists ≡ l
  pub cleared : (R m c : ℕ) → r.says ≡ said (found R m c) → (take (suc R) r.lists.third ≡ replicate (suc R) 0) × (take (suc R) r.lists.fourth ≡ replicate (suc R) 0)
  pub later : (R m c : ℕ) → r.says ≡ said (found R m c) → KeepsFrom (suc R) l.first r.lists.first × KeepsFrom (suc R) l.second r.lists.second × KeepsFrom (suc R) l.third r.lists.third × KeepsFrom (suc R) l.fourth r.lists.fourth

-- `short` is "13: the listing is wanted and its list has fewer than m·(n+4) words", `later` is "Words past
-- the last record are untouched."
pub record ListingKeeps (t : Ticket) (x : Outcome) (l : List ℕ) (r : ListingAnswer) : Type 0 where
  pub short : (R m c : ℕ) → x ≡ found R m c → length l < m * (t.n + 4) → r.says ≡ said (refused 13)
  pub enough : (R m c : ℕ) → x ≡ found R m c → m * (t.n + 4) ≤ length l → r.says ≡ said (found R m c)
  pub other : ((R m c : ℕ) → x ≢ found R m c) → r.says ≡ said x
  pub kept : ((R m c : ℕ) → r.says ≢ said (found R m c)) → r.list ≡ l
  pub records : (R m c : ℕ) → r.says ≡ said (found R m c) → take (m * (t.n + 4)) r.list ≡ listing_of t R m
  pub later : (R m c : ℕ) → r.says ≡ said (found R m c) → KeepsFrom (m * (t.n + 4)) l r.list

abbrev pub T1Lists : Type 0
T1Lists = ((w : List ℕ) (l : Lists) → UnitKeeps (words_outcome w) l (unit_answer w l)) × ((w l : List ℕ) → ListingKeeps (ticket_of w) (words_outcome w) l (listing_answer w l))

module _ (k : ℕ) (l : Lists) where
  abbrev c : Bool
  c = leb k (length l.third)
