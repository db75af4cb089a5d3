-- What the numbers of the places say is what the definitions say, and T3 holds of them.
use Rattle.std.specs.Prelude.{ℕ, ◌*◌, ◌<◌, ◌≡◌, List, map, length, get_or}
use Rattle.std.proofs.Common.{arith, sym, ap, ◌∙◌, subst}
use Rattle.std.proofs.lemmas.List.{length-map}
use Rattle.std.proofs.Math.ListN.{get_or-map}
use Rattle.spec_definitions.specs.Answers.{Outcome, Said, refused, said, said_injective}
use Rattle.spec_demands.specs.Numbered.{Numbered}
use Rattle.spec_several.specs.Several.{most_primes, several_answer}
use Rattle.spec_several.proofs.Regulators.{t1_several, several_numbered, places}
use Rattle.call_regulators.specs.Regulators.{LeastEach}
use Rattle.out_numbers.proofs.NumberLaws.{plain_same}
use Rattle.out_numbers.proofs.Least.{least_plain}
use Rattle.out_several.specs.Places.{InPlaces, plain_places, LeastPlaces}
use Rattle.out_several.proofs.Places.{in_places}

-- outcomes l that are said as the definitions say them
module _ (w : List ℕ) (l : List Outcome) (says : map said l ≡ (several_answer w).says) where
  said_at : (i : ℕ) → said (get_or l i (refused 0)) ≡ get_or (several_answer w).says i (said (refused 0))
  said_at i = sym (get_or-map said l i (refused 0)) ∙ ap (λ (s : List Said). get_or s i (said (refused 0))) says

  pub said_sixteen : length l ≡ most_primes
  said_sixteen = sym (length-map l said) ∙ ap length says ∙ (places w).sixteen

  pub places_said : (out : List ℕ) → length out ≡ 4 * most_primes → InPlaces l out → out ≡ plain_places (several_answer w).says
  places_said out long p = in_places _ out (places w).sixteen long (λ i h. plain_same (said_at i) (p i h))

  numbered_said : (i : ℕ) → i < (several_answer w).count → Numbered (get_or l i (refused 0))
  numbered_said i h =
      subst Numbered (sym (said_injective _ _ (said_at i ∙ (places w).first i h)))
      (several_numbered w i (omega (arith, (places w).count)))

  pub least_places : (out : List ℕ) → InPlaces l out → LeastEach w l →
      (count : ℕ) → count ≡ (several_answer w).count → LeastPlaces w count out
  least_places out p t count e i h =
      let within : i < (several_answer w).count = omega arith in
      let most : i < most_primes = omega (arith, (places w).count, (t1_several w).most) in
      least_plain _ (get_or l i (refused 0)) (numbered_said i within) (p i most) (t i)
