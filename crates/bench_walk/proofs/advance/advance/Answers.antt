use Rattle.std.proofs.Common.{◌*◌, arith}
use Rattle.walk_lead.specs.Kept.{largest_coefficient, largest_factor}
use Rattle.bench_walk.specs.Kept.{Multiplying, Multiplied, multiplying_first, multiplying_reduced, multiplying_asks, multiplying_going, multiplying_next, multiplied, multiplied_at}
use Rattle.bench_walk.proofs.advance.advance.Goals as goal
use Rattle.bench_walk.proofs.advance.advance.Goals.{Else-at-steps-2, Else-at-steps-3, Joined-at-steps, then-at-steps, else-at-steps+then-at-steps-2, else-at-steps+else-at-steps-2+then-at-steps-3}

pub loop-at-init : goal.loop-at-init
loop-at-init c = multiplying_first c.args.w.now c.args.steps.steps c.begin_walk-at.ensures

pub times_factor-twice_lead-requires : goal.times_factor-twice_lead-requires
times_factor-twice_lead-requires c = multiplying_asks c.args.w.now c.loop-at.invariant (omega arith)

pub stride_on-at-requires : goal.stride_on-at-requires
stride_on-at-requires c = multiplying_going c.args.w.now c.loop-at.invariant c.if-at-steps.false c.args.steps.few

-- after the first of the three steps
second : (c : Else-at-steps-2) → Multiplying c.args.w.now c.args.steps.steps (largest_coefficient * largest_factor) c.loop-at.b c.stride_on-at.new.after c.stride_on-at.new.remains c.stride_on-at.result c.times_factor-twice_lead.result
second c = multiplying_next c.args.w.now c.loop-at.invariant c.if-at-steps.false c.stride_on-at.ensures c.times_factor-twice_lead.ensures

pub times_factor-twice_lead-requires-in-loop-at : goal.times_factor-twice_lead-requires-in-loop-at
times_factor-twice_lead-requires-in-loop-at c =
    multiplying_asks c.args.w.now (second (goal.at.times_factor-twice_lead-requires-in-loop-at c).Else-at-steps-2) (omega arith)

pub stride_on-at-requires-in-loop-at : goal.stride_on-at-requires-in-loop-at
stride_on-at-requires-in-loop-at c =
    multiplying_going c.args.w.now (second (goal.at.stride_on-at-requires-in-loop-at c).Else-at-steps-2) c.if-at-steps-2.false c.args.steps.few

-- after the second
third : (c : Else-at-steps-3)
    → Multiplying c.args.w.now c.args.steps.steps (largest_coefficient * largest_factor * largest_factor) c.stride_on-at.new.after c.stride_on-at-in-loop-at.new.after c.stride_on-at-in-loop-at.new.remains c.stride_on-at-in-loop-at.result c.times_factor-twice_lead-in-loop-at.result
third c =
    let w = c.args.w.now in
    let t2 = multiplying_next w c.loop-at.invariant c.if-at-steps.false c.stride_on-at.ensures c.times_factor-twice_lead.ensures in
    multiplying_next w t2 c.if-at-steps-2.false c.stride_on-at-in-loop-at.ensures c.times_factor-twice_lead-in-loop-at.ensures

pub times_factor-requires : goal.times_factor-requires
times_factor-requires c = multiplying_asks c.args.w.now (third (goal.at.times_factor-requires c).Else-at-steps-3) (omega arith)

pub stride_on-at-requires-in-loop-at-2 : goal.stride_on-at-requires-in-loop-at-2
stride_on-at-requires-in-loop-at-2 c =
    multiplying_going c.args.w.now (third (goal.at.stride_on-at-requires-in-loop-at-2 c).Else-at-steps-3) c.if-at-steps-3.false c.args.steps.few

pub loop-at-preserved : goal.loop-at-preserved
loop-at-preserved c =
    let w = c.args.w.now in
    multiplying_reduced w (multiplying_next w (third (goal.at.loop-at-preserved c).Else-at-steps-3) c.if-at-steps-3.false c.stride_on-at-in-loop-at-2.ensures c.times_factor.ensures)

-- where the loop is left, before any of its three steps
met : (c : Joined-at-steps) → Multiplied c.args.w.now c.args.steps.steps c.if-at-steps.at c.if-at-steps.twice_lead
met c =
    let v = c.args.w.now in
    let t = c.loop-at.invariant in
    elim c.if-at-steps.branch [
      | then-at-steps w ↦ multiplied_at w.at-is w.twice_lead-is (multiplied v t w.if-at-steps.true)
      | else-at-steps+then-at-steps-2 w ↦
          let t2 = multiplying_next v t w.if-at-steps.false w.stride_on-at.ensures w.times_factor-twice_lead.ensures in
          multiplied_at w.at-is w.twice_lead-is (multiplied v t2 w.if-at-steps-2.true)
      | else-at-steps+else-at-steps-2+then-at-steps-3 w ↦
          let t2 = multiplying_next v t w.if-at-steps.false w.stride_on-at.ensures w.times_factor-twice_lead.ensures in
          let t3 = multiplying_next v t2 w.if-at-steps-2.false w.stride_on-at-in-loop-at.ensures w.times_factor-twice_lead-in-loop-at.ensures in
          multiplied_at w.at-is w.twice_lead-is (multiplied v t3 w.if-at-steps-3.true)
    ]

pub returns-clause-degree : goal.returns-clause-degree
returns-clause-degree c = (met (goal.at.returns-clause-degree c).Joined-at-steps).degree_is

pub returns-clause-product : goal.returns-clause-product
returns-clause-product c = (met (goal.at.returns-clause-product c).Joined-at-steps).product_is
