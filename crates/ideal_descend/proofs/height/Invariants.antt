-- The places from n on are equal.
use Rattle.std.proofs.Common.{ℕ, ◌≤◌, ◌≡◌, get_or}
use Rattle.ideal_descend.proofs.height.Given as goal

abbrev pub invariant-loop-n : goal.invariant-loop-n
invariant-loop-n l = (i : ℕ) → l.n ≤ i → get_or l.twice i 0 ≡ get_or l.rest i 0
