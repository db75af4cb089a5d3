-- The search for the last record within a distance, record by record from the last one down.
use Rattle.std.specs.Prelude.{ℕ, zero, suc, ◌-◌, ◌<◌, ◌≡◌, Bool, true, false, List, leb}
use Rattle.std.proofs.Common.{arith, refl, sym, ap, ◌∙◌}
use Rattle.spec_definitions.specs.Lookup.{record_at, last_within}
use Rattle.listing_distances.specs.Distances.{distance_of, distance_of_record}

module _ (l : List ℕ) (n y : ℕ) where
  -- whether record k is within y
  abbrev pub within : ℕ → Bool
  within k = leb (distance_of (record_at l n k)) y

  step_within : (k : ℕ) → last_within l n y (suc k) ≡ (elim (within (suc k)) [ true ↦ suc k | false ↦ last_within l n y k ])
  unfolding last_within
  step_within k = ap (λ (d : ℕ). elim (leb d y) [ true ↦ suc k | false ↦ last_within l n y k ]) (sym (distance_of_record l n (suc k)))

  pub last_found : (k : ℕ) → 0 < k → within k ≡ true → last_within l n y k ≡ k
  last_found zero some h = absurd (omega arith)
  last_found (suc k) some h = step_within k ∙ rw h refl

  pub last_below : (k : ℕ) → 0 < k → within k ≡ false → last_within l n y k ≡ last_within l n y (k - 1)
  last_below zero some h = absurd (omega arith)
  last_below (suc k) some h = let e : k ≡ suc k - 1 = omega arith in step_within k ∙ rw h (ap (last_within l n y) e)

  -- of the first record alone
  pub last_first : last_within l n y 0 ≡ 0
  unfolding last_within
  last_first = refl
