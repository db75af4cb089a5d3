-- The proofs of specs/Lookups.
use Rattle.std.specs.Prelude.{ℕ, ◌+◌, ◌*◌, ◌≤◌, ◌≡◌, List}
use Rattle.std.proofs.Common.{arith, sym, ap, ◌∙◌, ⊎_elim}
use Rattle.math_ring.specs.Order.{le_or_lt}
use Rattle.spec_definitions.specs.Lookup.{record_at, lookup_of, place_of}
use Rattle.spec_refusals.specs.Lookups.{LooksUp}
use Rattle.spec_refusals.proofs.Lookups.{t2_lookups}
use Rattle.spec_uniqueness.specs.Lookups.{LookupOnly}

-- ---- the proof
-- a record within y is not after the last one
last_most : {l : List ℕ} {n y place place' : ℕ} {part part' : List ℕ} (a : LooksUp l n y part place) (b : LooksUp l n y part' place') → b.k ≤ a.k
last_most a b = ⊎_elim (λ h. h) (λ h. absurd (let c = a.last b.k h b.below in let d = b.within in omega arith)) (le_or_lt b.k a.k)

pub lookup_only : LookupOnly
lookup_only l n y right part place a = (a.part_is ∙ ap (record_at l n) same ∙ sym b.part_is, a.place_is ∙ ap (λ (k : ℕ). k * (n + 4)) same ∙ sym b.place_is)
  where
    b : LooksUp l n y (lookup_of l n y) (place_of l n y)
    b = t2_lookups l n y right

    same : a.k ≡ b.k
    same = let c = last_most a b in let d = last_most b a in omega arith
