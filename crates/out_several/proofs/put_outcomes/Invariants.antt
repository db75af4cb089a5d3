-- The places before i hold the numbers of their outcomes.
use Rattle.std.proofs.Common.{ℕ, ◌*◌, ◌<◌, ◌≡◌, length, get_or}
use Rattle.spec_definitions.specs.Answers.{refused, said}
use Rattle.spec_several.specs.Several.{most_primes}
use Rattle.call_regulators.specs.Regulators.{outcomes}
use Rattle.out_several.specs.Places.{PlainAt}
use Rattle.out_several.proofs.put_outcomes.Given as goal

abbrev pub invariant-loop-i : goal.invariant-loop-i
invariant-loop-i l =
    (length l.out ≡ 4 * most_primes)
    × ((k : ℕ) → k < l.i → PlainAt l.out k (said (get_or (outcomes l.a) k (refused 0))))
