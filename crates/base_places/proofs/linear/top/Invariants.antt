-- All places from n on are 0.
use Rattle.std.proofs.Common.{ℕ, ◌≤◌, ◌≡◌, get_or}
use Rattle.base_places.proofs.linear.top.Given as goal

abbrev pub invariant-loop-n : goal.invariant-loop-n
invariant-loop-n l = (i : ℕ) → l.n ≤ i → get_or l.c i 0 ≡ 0
