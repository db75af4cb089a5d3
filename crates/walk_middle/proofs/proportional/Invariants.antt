-- The products agree at every place before i; at the last place both are that of the leading coefficients.
use Rattle.std.proofs.Common.{ℕ, ◌*◌, ◌%◌, ◌<◌, ◌≡◌, get_or}
use Rattle.walk_middle.proofs.proportional.Given as goal

abbrev pub invariant-loop-i : goal.invariant-loop-i
invariant-loop-i l = (k : ℕ) → k < l.i → get_or l.x.c k 0 * l.b % l.f.q ≡ get_or l.y.c k 0 * l.a % l.f.q
