-- The counts are those of the elements below x.
use Rattle.base_field.specs.Named.{name}
use Rattle.base_polynomial.specs.Whole.{poly}
use Rattle.estimate_counts.specs.Counts.{CountsBelow}
use Rattle.estimate_counts.proofs.count_values.Given as goal

abbrev pub invariant-loop-x : goal.invariant-loop-x
invariant-loop-x l = CountsBelow (name l.f) (poly l.d) l.x l.counts
