-- Refusal 8: a list that is not whole records is refused, and whole records are refused by their kinds and
-- distances.
use Rattle.std.specs.Prelude.{ℕ, ◌+◌, ◌-◌, ◌%◌, ◌≡◌, refl, Bool, true, false, not, ◌||◌, ◌&&◌, List, eqb, length}
use Rattle.std.proofs.Common.{arith}
use Rattle.std.proofs.lemmas.Bool.{or_parts}
use borrow.Author.Tests.{eq-eqb, ne_eqb, eqb-true, eqb-false, not-false}
use Rattle.spec_definitions.specs.Lookup.{wrong_listing, right_kinds, rising, record_count, distance_at}
use Rattle.listing_whole.specs.Records.{Records}

module _ (l : List ℕ) (n : ℕ) where
  -- the last three tests, of whole records
  abbrev pub right_records : Bool
  right_records = right_kinds l n (record_count l n) && eqb (distance_at l n 0) 0 && rising l n (record_count l n - 1)

  all_three : (a b c : Bool) → (not a || not b || not c) ≡ not (a && b && c)
  all_three true true c = refl
  all_three true false c = refl
  all_three false b c = refl

  pub of_records : Records l n → wrong_listing l n ≡ not right_records
  unfolding wrong_listing
  of_records r = simp (wrong_listing, r.degree, ne_eqb (length l) 0 (let w = r.some in λ e. omega arith), eq-eqb _ _ r.whole) (all_three _ _ _)

  first_of : (s t : Bool) → (elim s [ true ↦ true | false ↦ t ]) ≡ false → s ≡ false
  first_of true t h = h
  first_of false t h = refl

  records_of : wrong_listing l n ≡ false → Records l n
  unfolding wrong_listing
  records_of h =
      let a = or_parts _ _ (first_of _ _ h) in
      let b = or_parts _ _ a.0 in
      let z : length l ≡ 0 → ⊥ = eqb-false (length l) 0 b.1 in
      record { degree = b.0; some = omega arith; whole = eqb-true (length l % (n + 4)) 0 (not-false _ a.1) }

  pub of_none : (Records l n → ⊥) → wrong_listing l n ≡ true
  of_none never = either (wrong_listing l n) refl
    where
      either : (b : Bool) → wrong_listing l n ≡ b → wrong_listing l n ≡ true
      either true e = e
      either false e = absurd (never (records_of e))
