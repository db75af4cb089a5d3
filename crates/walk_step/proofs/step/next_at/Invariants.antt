-- The invariant: after i terms t is before + a·(z − r) at k. The terms left out are 0.
use Rattle.std.proofs.Common.{get_or}
use Rattle.walk_step.specs.Terms.{More}
use Rattle.walk_step.proofs.step.next_at.Given as goal

abbrev pub invariant-loop-i : goal.invariant-loop-i
invariant-loop-i v = More v.q (get_or v.s.before.now v.k 0) v.a v.remains v.s.rest.now v.k v.i v.t
