-- The places below i are filled with numbers below q, the others are 0.
use Rattle.std.proofs.Common.{◌≡◌, ℕ, ◌<◌, ◌≤◌, length, get_or}
use Rattle.test_polynomial.proofs.sample.Given as goal

abbrev pub invariant-loop-i : goal.invariant-loop-i
invariant-loop-i l = (l.s < 65537) × (length l.c ≡ 129) × ((k : ℕ) → get_or l.c k 0 < l.f.q) × ((k : ℕ) → l.i ≤ k → get_or l.c k 0 ≡ 0)
