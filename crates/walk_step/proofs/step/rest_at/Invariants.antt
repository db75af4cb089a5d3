-- The invariant: after i terms t is s − r − x·b at k. The terms left out at both ends are 0.
use Rattle.std.proofs.Common.{◌≤◌, ◌-◌, ◌+◌, get_or}
use Rattle.walk_step.specs.Terms.{Less}
use Rattle.walk_step.proofs.step.rest_at.Given as goal

abbrev pub invariant-loop-i : goal.invariant-loop-i
invariant-loop-i v = (v.i ≤ v.k + 1) × Less v.q (get_or v.twice v.k 0 + (v.q - get_or v.rest v.k 0)) v.x v.current v.k v.i v.t
