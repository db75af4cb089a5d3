use Rattle.std.proofs.Common.{◌+◌}
use Rattle.bench_walk.specs.Tried.{Trying, trying_first, trying_going, trying_tested, trying_next, tried}
use Rattle.bench_walk.proofs.half.try_on.Goals as goal
use Rattle.bench_walk.proofs.half.try_on.Goals.{Else-second-steps, Else-third-steps}

pub loop-at-init : goal.loop-at-init
loop-at-init c = trying_first c.args.w.now c.args.steps.steps c.begin_walk-at.ensures

pub stride_on-second-requires : goal.stride_on-second-requires
stride_on-second-requires c = trying_going c.args.w.now c.loop-at.invariant c.if-at-steps.false c.args.steps.few

pub stopped-counted-requires : goal.stopped-counted-requires
stopped-counted-requires c = trying_tested c.args.w.now c.loop-at.invariant c.if-at-steps.false c.stride_on-second.ensures

pub returns-then-second-steps-clause-degree : goal.returns-then-second-steps-clause-degree
returns-then-second-steps-clause-degree c =
    let w = c.args.w.now in
    tried w (trying_next w c.loop-at.invariant c.if-at-steps.false c.stride_on-second.ensures c.stopped-counted.ensures) c.if-second-steps.true

-- after the first of the three steps
second : (c : Else-second-steps) → Trying c.args.w.now c.args.steps.steps c.loop-at.b c.stride_on-second.new.after c.stride_on-second.new.remains (c.loop-at.counted + c.stopped-counted.result) c.stride_on-second.result
second c = trying_next c.args.w.now c.loop-at.invariant c.if-at-steps.false c.stride_on-second.ensures c.stopped-counted.ensures

pub stride_on-third-requires : goal.stride_on-third-requires
stride_on-third-requires c =
    trying_going c.args.w.now (second (goal.at.stride_on-third-requires c).Else-second-steps) c.if-second-steps.false c.args.steps.few

pub stopped-counted-requires-in-loop-at : goal.stopped-counted-requires-in-loop-at
stopped-counted-requires-in-loop-at c =
    trying_tested c.args.w.now (second (goal.at.stopped-counted-requires-in-loop-at c).Else-second-steps) c.if-second-steps.false c.stride_on-third.ensures

pub returns-then-third-steps-clause-degree : goal.returns-then-third-steps-clause-degree
returns-then-third-steps-clause-degree c =
    let w = c.args.w.now in
    let t = second (goal.at.returns-then-third-steps-clause-degree c).Else-second-steps in
    tried w (trying_next w t c.if-second-steps.false c.stride_on-third.ensures c.stopped-counted-in-loop-at.ensures) c.if-third-steps.true

-- after the second
third : (c : Else-third-steps)
    → Trying c.args.w.now c.args.steps.steps c.stride_on-second.new.after c.stride_on-third.new.after c.stride_on-third.new.remains (c.loop-at.counted + c.stopped-counted.result + c.stopped-counted-in-loop-at.result) c.stride_on-third.result
third c =
    let w = c.args.w.now in
    let t2 = trying_next w c.loop-at.invariant c.if-at-steps.false c.stride_on-second.ensures c.stopped-counted.ensures in
    trying_next w t2 c.if-second-steps.false c.stride_on-third.ensures c.stopped-counted-in-loop-at.ensures

pub stride_on-at-requires : goal.stride_on-at-requires
stride_on-at-requires c =
    trying_going c.args.w.now (third (goal.at.stride_on-at-requires c).Else-third-steps) c.if-third-steps.false c.args.steps.few

pub stopped-counted-requires-in-loop-at-2 : goal.stopped-counted-requires-in-loop-at-2
stopped-counted-requires-in-loop-at-2 c =
    trying_tested c.args.w.now (third (goal.at.stopped-counted-requires-in-loop-at-2 c).Else-third-steps) c.if-third-steps.false c.stride_on-at.ensures

pub loop-at-preserved : goal.loop-at-preserved
loop-at-preserved c =
    trying_next c.args.w.now (third (goal.at.loop-at-preserved c).Else-third-steps) c.if-third-steps.false c.stride_on-at.ensures c.stopped-counted-in-loop-at-2.ensures
