-- T1 and T2, the parts on lookup: refusal 8 is the paper's sentence and shows by the empty part at the start
-- of the list; else the part is the last record with a distance of at most y.
use Prim.Native.Nat.{ℕ, suc, ◌+◌, ◌*◌, ◌≤◌, ◌<◌}
use Rattle.std.specs.Prelude.{◌≡◌, ◌≢◌, ◌⊎◌, List, [], get_or}
use Rattle.std.proofs.Math.ListN.{length}
use Rattle.spec_arithmetic.specs.Words.{kind}
use Rattle.spec_definitions.specs.Lookup.{record_kinds, record_at, distance_at, record_count, lookup_of, place_of}
use Rattle.spec_sentences.specs.Sentences.{DegreeNotAllowed}

module _ (l : List ℕ) (n : ℕ) where
  -- "one or more whole records"
  abbrev pub WholeRecords : Type 0
  WholeRecords = (k : ℕ) × (0 < k) × (length l ≡ k * (n + 4))

  -- some word of record k + 1 isn't of the kind that is listed for its place
  abbrev pub WrongKind : ℕ → Type 0
  WrongKind k = (i : ℕ) × (i < n + 4) × (kind (get_or l (k * (n + 4) + i) 0) ≢ get_or (record_kinds n) i 0)

  abbrev pub WrongKinds : Type 0
  WrongKinds = (k : ℕ) × (k < record_count l n) × WrongKind k

  -- two neighbours' distances don't rise
  abbrev pub NotRising : Type 0
  NotRising = (k : ℕ) × (suc k < record_count l n) × (distance_at l n (suc k) ≤ distance_at l n k)

  -- "8 (lookup only): n is not allowed by 3, or the words aren't one or more whole records of the kinds
  -- below, or the first distance isn't 0, or distances don't strictly rise"
  abbrev pub WrongListing : Type 0
  WrongListing = DegreeNotAllowed n ⊎ (¬ WholeRecords) ⊎ WrongKinds ⊎ (distance_at l n 0 ≢ 0) ⊎ NotRising

-- "Lookup has only refusal 8 and shows it by the empty part at the start of its list"
abbrev pub T1Lookups : Type 0
T1Lookups = (l : List ℕ) (n y : ℕ) → WrongListing l n → (lookup_of l n y ≡ []) × (place_of l n y ≡ 0)

-- record k + 1 of the list is the last with a distance of at most y; it is the part handed back, at its place
pub record LooksUp (l : List ℕ) (n y : ℕ) (part : List ℕ) (place : ℕ) : Type 0 where
  pub k : ℕ
  pub below : k < record_count l n
  pub part_is : part ≡ record_at l n k
  pub place_is : place ≡ k * (n + 4)
  pub within : distance_at l n k ≤ y
  pub last : (i : ℕ) → k < i → i < record_count l n → y < distance_at l n i

abbrev pub T2Lookups : Type 0
T2Lookups = (l : List ℕ) (n y : ℕ) → ¬ WrongListing l n → LooksUp l n y (lookup_of l n y) (place_of l n y)

-- ---- lookup
module _ (l : List ℕ) (n y : ℕ) where
  -- of records 0 to k, record r is the last within y
  pub record Last (k r : ℕ) : Type 0 where
    pub most : r ≤ k
    pub within : distance_at l n r ≤ y
    pub last : (i : ℕ) → r < i → i ≤ k → y < distance_at l n i
