-- The call `lookup`: refusal 8, and the record of a listing at a distance, with its place in the list.
use Rattle.std.specs.Prelude.{ℕ, zero, suc, ◌+◌, ◌*◌, ◌/◌, ◌%◌, ◌-◌, Bool, true, false, not, ◌||◌, List, [], ◌∷◌, ◌++◌, map, leb, ltb, eqb, length, get_or, take, drop, replicate}
use Rattle.spec_arithmetic.specs.Words.{kind, value, joined, same}
use Rattle.spec_definitions.specs.Ticket.{genus, wrong_degree}

-- the kinds of a record's words
unfoldable pub record_kinds : ℕ → List ℕ
record_kinds n = 5 ∷ 6 ∷ 7 ∷ 10 ∷ 11 ∷ (replicate (suc (genus n)) 8 ++ replicate (genus n) 9)

module _ (l : List ℕ) (n : ℕ) where
  -- record k of the list, from 0 on
  unfoldable pub record_at : ℕ → List ℕ
  record_at k = take (n + 4) (drop (k * (n + 4)) l)

  -- its distance
  unfoldable pub distance_at : ℕ → ℕ
  distance_at k = joined (value (get_or l (k * (n + 4) + 1) 0)) (value (get_or l (k * (n + 4) + 2) 0))

  unfoldable pub record_count : ℕ
  record_count = length l / (n + 4)

  -- the first k records have their kinds
  unfoldable pub right_kinds : ℕ → Bool
  right_kinds zero = true
  right_kinds (suc k) = elim (right_kinds k) [ true ↦ same (map kind (record_at k)) (record_kinds n) | false ↦ false ]

  -- the distances of records 0 to k strictly rise
  unfoldable pub rising : ℕ → Bool
  rising zero = true
  rising (suc k) = elim (rising k) [ true ↦ ltb (distance_at k) (distance_at (suc k)) | false ↦ false ]

  -- "8 (lookup only): n is not allowed by 3, or the words aren't one or more whole records of the kinds
  -- below, or the first distance isn't 0, or distances don't strictly rise"
  unfoldable pub wrong_listing : Bool
  wrong_listing =
      elim (wrong_degree n || eqb (length l) 0 || not (eqb (length l % (n + 4)) 0)) [
        | true ↦ true
        | false ↦ not (right_kinds record_count) || not (eqb (distance_at 0) 0) || not (rising (record_count - 1))
      ]

  -- "the last record with distance at most y", of records 0 to k
  unfoldable pub last_within : ℕ → ℕ → ℕ
  last_within y zero = zero
  last_within y (suc k) = elim (leb (distance_at (suc k)) y) [ true ↦ suc k | false ↦ last_within y k ]

  -- the call `lookup`: the part of the caller's list, and how many words of the list stand before it;
  -- "Lookup has only refusal 8 and shows it by the empty part at the start of its list"
  unfoldable pub lookup_of : ℕ → List ℕ
  lookup_of y = elim wrong_listing [ true ↦ [] | false ↦ record_at (last_within y (record_count - 1)) ]

  unfoldable pub place_of : ℕ → ℕ
  place_of y = elim wrong_listing [ true ↦ 0 | false ↦ last_within y (record_count - 1) * (n + 4) ]
