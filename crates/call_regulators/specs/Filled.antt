-- The places as they are filled: those before place i have the outcomes of the first i primes, those from there
-- on the refusal 0.
use Rattle.std.specs.Prelude.{ℕ, ◌≡◌, List}
use Rattle.std.proofs.Math.ListN.{take}
use Rattle.spec_several.specs.Several.{several_of, sixteen_places}
use Rattle.walk_outcome.specs.declared.Outcome.{Outcome}
use Rattle.call_regulators.specs.Regulators.{meanings}

abbrev pub FilledPlaces : List ℕ → ℕ → List Outcome → Type 0
FilledPlaces w i places = meanings places ≡ sixteen_places (take i (several_of w))
