-- The records of a listing, taken together: their kinds are right where those of each are.
use Rattle.std.specs.Prelude.{ℕ, ◌<◌, ◌≡◌, Bool, true, List, Decides}
use Rattle.std.proofs.Common.{refl}
use Rattle.std.proofs.lemmas.Bool.Decides.{same_from_decides}
use Rattle.spec_definitions.specs.Lookup.{record_at, right_kinds}
use Rattle.listing_whole.specs.Records.{decides_each}
use Rattle.listing_kinds.specs.Kinds.{has_kinds}

pub right_by_record : (l : List ℕ) (n m : ℕ) (r : Bool) → Decides r ((k : ℕ) → k < m → has_kinds (record_at l n k) n ≡ true) → r ≡ right_kinds l n m
unfolding right_kinds has_kinds
right_by_record l n m r h = same_from_decides r (right_kinds l n m) h (decides_each (right_kinds l n) (λ k. has_kinds (record_at l n k) n) refl (λ k. refl) m)
