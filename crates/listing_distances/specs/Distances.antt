-- The distance in a record's words; that the distances of a listing rise.
use Rattle.std.specs.Prelude.{ℕ, suc, ◌+◌, ◌*◌, ◌<◌, ◌≡◌, List, take, drop, get_or, Bool, true, false, ltb, Decides}
use Rattle.std.proofs.Common.{arith, refl, sym, ap, ap₂, ◌∙◌, zero-mul, get_or-take}
use Rattle.std.proofs.Math.Seq.{get_or-drop}
use Rattle.std.proofs.lemmas.Bool.Decides.{same_from_decides}
use Rattle.spec_arithmetic.specs.Words.{value, joined}
use Rattle.spec_definitions.specs.Lookup.{record_at, distance_at, rising}
use Rattle.listing_whole.specs.Records.{decides_each}

unfoldable pub distance_of : List ℕ → ℕ
distance_of words = joined (value (get_or words 1 0)) (value (get_or words 2 0))

module _ (l : List ℕ) (n : ℕ) where
  pub distance_of_record : (k : ℕ) → distance_of (record_at l n k) ≡ distance_at l n k
  unfolding distance_of record_at distance_at
  distance_of_record k = ap₂ (λ (i j : ℕ). joined (value i) (value j)) (place 1 (omega arith)) (place 2 (omega arith))
    where
      place : (i : ℕ) → i < n + 4 → get_or (take (n + 4) (drop (k * (n + 4)) l)) i 0 ≡ get_or l (k * (n + 4) + i) 0
      place i h = get_or-take (n + 4) (drop (k * (n + 4)) l) i 0 h ∙ get_or-drop (k * (n + 4)) l i 0

  pub distance_of_first : distance_of (take (n + 4) l) ≡ distance_at l n 0
  unfolding record_at
  distance_of_first = ap (λ (at : ℕ). distance_of (take (n + 4) (drop at l))) (sym (zero-mul (n + 4))) ∙ distance_of_record 0

  pub rising_by_record : (m : ℕ) (r : Bool) → Decides r ((k : ℕ) → k < m → ltb (distance_of (record_at l n k)) (distance_of (record_at l n (suc k))) ≡ true) → r ≡ rising l n m
  unfolding rising
  rising_by_record m r h = same_from_decides r (rising l n m) h (decides_each (rising l n) (λ k. ltb (distance_of (record_at l n k)) (distance_of (record_at l n (suc k)))) refl (λ k. ap₂ (λ (i j : ℕ). elim (rising l n k) [ true ↦ ltb i j | false ↦ false ]) (sym (distance_of_record k)) (sym (distance_of_record (suc k)))) m)
