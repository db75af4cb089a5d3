-- With k digits left, z is the last ideal for the number of the digits before them.
use Rattle.std.proofs.Common.{◌/◌, ◌^◌, ◌≤◌}
use Rattle.ideal_climb.specs.Located.{IsLast}
use Rattle.ideal_at.proofs.halving.Given as goal

abbrev pub invariant-loop-k : goal.invariant-loop-k
invariant-loop-k v = (v.k ≤ 41) × IsLast v.r.surd (v.y.0 / 2 ^ v.k) v.z v.at
