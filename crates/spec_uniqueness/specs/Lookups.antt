-- Of a listing that is not refused, one part answers: the last record with a distance of at most y, at its
-- place, is the part and the place that lookup hands back.
use Rattle.std.specs.Prelude.{ℕ, ◌≡◌, List}
use Rattle.spec_definitions.specs.Lookup.{lookup_of, place_of}
use Rattle.spec_refusals.specs.Lookups.{WrongListing, LooksUp}

-- "It hands back the last record with distance at most y, as that part of the caller's list."
abbrev pub LookupOnly : Type 0
LookupOnly = (l : List ℕ) (n y : ℕ) → ¬ WrongListing l n → (part : List ℕ) (place : ℕ) → LooksUp l n y part place → (part ≡ lookup_of l n y) × (place ≡ place_of l n y)
