-- The value is that of the coefficients from i up.
use Rattle.std.proofs.Common.{◌<◌, ◌≡◌}
use Rattle.base_field.specs.Named.{ops}
use Rattle.estimate_counts.specs.Counts.{value_from}
use Rattle.estimate_counts.proofs.value_at.Given as goal

abbrev pub invariant-loop-i : goal.invariant-loop-i
invariant-loop-i l = (l.value < l.f.q) × (l.value ≡ value_from (ops l.f) l.d.c l.d.size l.x l.i)
