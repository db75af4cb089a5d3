-- The loop's invariant: every word before i has the kind of its place.
use Rattle.std.proofs.Common.{ℕ, ◌<◌}
use Rattle.ticket_layout.specs.Kinds.{HasKind}
use Rattle.ticket_layout.proofs.kinds.wrong_kinds.Given as goal

abbrev pub invariant-loop-i : goal.invariant-loop-i
invariant-loop-i g l = (k : ℕ) → k < l.i → HasKind (goal.F-post g l.kind_at) l.words k
