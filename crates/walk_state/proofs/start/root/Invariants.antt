-- The places from e on are the root's, and each turn adds one.
use Rattle.walk_state.specs.Rooted.{Rooted}
use Rattle.walk_state.proofs.start.root.Given as goal

abbrev pub invariant-loop-e : goal.invariant-loop-e
invariant-loop-e l = Rooted l.f.q l.radicand l.h l.e l.d
