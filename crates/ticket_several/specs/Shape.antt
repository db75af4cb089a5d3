-- The shape of the words.
use Rattle.std.specs.Prelude.{ℕ, ◌+◌, ◌≤◌, ◌≡◌, false, List, length}
use Rattle.std.proofs.Common.{ltb-false}
use Rattle.std.proofs.lemmas.Bool.{or_parts}
use Rattle.spec_several.specs.Several.{degree_of, wrong_shape}
use Rattle.spec_several.proofs.Laws.{kinds_first, kinds_coefficient, kinds_budget, kinds_prime, kinds_end}

-- the kinds of the words in the right shape, part by part
pub ruleset shape_parts = (kinds_first, kinds_coefficient, kinds_budget, kinds_prime, kinds_end)

-- there is a word 0 where the shape is right
pub right_long : (w : List ℕ) → wrong_shape w ≡ false → degree_of w + 5 ≤ length w
unfolding wrong_shape
right_long w e = ltb-false (length w) (degree_of w + 5) (or_parts _ _ (or_parts _ _ (or_parts _ _ e).0).0).0
