use Rattle.std.proofs.Common.{◌*◌, arith, ◌∙◌}
use Rattle.walk_lead.specs.Kept.{largest_coefficient, largest_factor}
use Rattle.walk_seek.specs.Steps.{Seeking, Met, seeking_first, seeking_reduced, seeking_asks, seeking_going, seeking_next, seeking_met, met_reduced, met_at, last_reduced, outcome_found, outcome_spent}
use Rattle.walk_seek.proofs.seek.Goals as goal
use Rattle.walk_seek.proofs.seek.Goals.{Else-c-eq1, Else-a-eq1, Joined-c-eq1, then-c-eq1, else-c-eq1+else-at-budget-2+then-a-eq1, else-c-eq1+else-at-budget-2+else-a-eq1+else-at-budget-3+then-b-eq1}

pub loop-at-init : goal.loop-at-init
loop-at-init c = seeking_first c.args.w.now c.args.budget.steps c.begin_walk-at.ensures

pub returns-then-at-budget : goal.returns-then-at-budget
returns-then-at-budget c = outcome_spent c.args.w.now c.loop-at.invariant c.if-at-budget.true

pub times_factor-twice_lead-requires : goal.times_factor-twice_lead-requires
times_factor-twice_lead-requires c = seeking_asks c.args.w.now c.loop-at.invariant (omega arith)

pub stride_on-at-requires : goal.stride_on-at-requires
stride_on-at-requires c = seeking_going c.args.w.now c.loop-at.invariant c.if-at-budget.false c.args.budget.few

-- after the first of the three steps
second : (c : Else-c-eq1) → Seeking c.args.w.now c.args.budget.steps (largest_coefficient * largest_factor) c.loop-at.b c.stride_on-at.new.after c.stride_on-at.new.remains c.stride_on-at.result c.times_factor-twice_lead.result
second c = seeking_next c.args.w.now c.loop-at.invariant c.if-at-budget.false c.stride_on-at.ensures c.times_factor-twice_lead.ensures c.if-c-eq1.false

pub returns-then-at-budget-2 : goal.returns-then-at-budget-2
returns-then-at-budget-2 c = outcome_spent c.args.w.now (second (goal.at.returns-then-at-budget-2 c).Else-c-eq1) c.if-at-budget-2.true

pub times_factor-twice_lead-requires-in-loop-at : goal.times_factor-twice_lead-requires-in-loop-at
times_factor-twice_lead-requires-in-loop-at c =
    seeking_asks c.args.w.now (second (goal.at.times_factor-twice_lead-requires-in-loop-at c).Else-c-eq1) (omega arith)

pub stride_on-at-requires-in-loop-at : goal.stride_on-at-requires-in-loop-at
stride_on-at-requires-in-loop-at c =
    seeking_going c.args.w.now (second (goal.at.stride_on-at-requires-in-loop-at c).Else-c-eq1) c.if-at-budget-2.false c.args.budget.few

-- after the second
third : (c : Else-a-eq1)
    → Seeking c.args.w.now c.args.budget.steps (largest_coefficient * largest_factor * largest_factor) c.stride_on-at.new.after c.stride_on-at-in-loop-at.new.after c.stride_on-at-in-loop-at.new.remains c.stride_on-at-in-loop-at.result c.times_factor-twice_lead-in-loop-at.result
third c =
    let w = c.args.w.now in
    let s = seeking_next w c.loop-at.invariant c.if-at-budget.false c.stride_on-at.ensures c.times_factor-twice_lead.ensures c.if-c-eq1.false in
    seeking_next w s c.if-at-budget-2.false c.stride_on-at-in-loop-at.ensures c.times_factor-twice_lead-in-loop-at.ensures c.if-a-eq1.false

pub returns-then-at-budget-3 : goal.returns-then-at-budget-3
returns-then-at-budget-3 c = outcome_spent c.args.w.now (third (goal.at.returns-then-at-budget-3 c).Else-a-eq1) c.if-at-budget-3.true

pub times_factor-requires : goal.times_factor-requires
times_factor-requires c = seeking_asks c.args.w.now (third (goal.at.times_factor-requires c).Else-a-eq1) (omega arith)

pub stride_on-at-requires-in-loop-at-2 : goal.stride_on-at-requires-in-loop-at-2
stride_on-at-requires-in-loop-at-2 c =
    seeking_going c.args.w.now (third (goal.at.stride_on-at-requires-in-loop-at-2 c).Else-a-eq1) c.if-at-budget-3.false c.args.budget.few

pub loop-at-smaller : goal.loop-at-smaller
loop-at-smaller c =
    omega (arith, c.loop-at.invariant.reached, c.if-at-budget.false, c.stride_on-at.ensures.index_is, c.stride_on-at-in-loop-at.ensures.index_is, c.stride_on-at-in-loop-at-2.ensures.index_is)

pub loop-at-preserved : goal.loop-at-preserved
loop-at-preserved c =
    let w = c.args.w.now in
    seeking_reduced w (seeking_next w (third (goal.at.loop-at-preserved c).Else-a-eq1) c.if-at-budget-3.false c.stride_on-at-in-loop-at-2.ensures c.times_factor.ensures c.if-b-eq1.false)

-- where the loop is left, after any of its three steps
met : (c : Joined-c-eq1) → Met c.args.w.now c.args.budget.steps c.if-c-eq1.at c.if-c-eq1.constant c.if-c-eq1.twice_lead
met c =
    let v = c.args.w.now in
    let t = c.loop-at.invariant in
    elim c.if-c-eq1.branch [
      | then-c-eq1 w ↦ met_at w.at-is w.twice_lead-is w.constant-is (seeking_met v t c.if-at-budget.false c.stride_on-at.ensures c.times_factor-twice_lead.ensures w.if-c-eq1.true)
      | else-c-eq1+else-at-budget-2+then-a-eq1 w ↦
          let t2 = seeking_next v t c.if-at-budget.false c.stride_on-at.ensures c.times_factor-twice_lead.ensures w.if-c-eq1.false in
          met_at w.at-is w.twice_lead-is w.constant-is (seeking_met v t2 w.if-at-budget-2.false w.stride_on-at-in-loop-at.ensures w.times_factor-twice_lead-in-loop-at.ensures w.if-a-eq1.true)
      | else-c-eq1+else-at-budget-2+else-a-eq1+else-at-budget-3+then-b-eq1 w ↦
          let t2 = seeking_next v t c.if-at-budget.false c.stride_on-at.ensures c.times_factor-twice_lead.ensures w.if-c-eq1.false in
          let t3 = seeking_next v t2 w.if-at-budget-2.false w.stride_on-at-in-loop-at.ensures w.times_factor-twice_lead-in-loop-at.ensures w.if-a-eq1.false in
          met_at w.at-is w.twice_lead-is w.constant-is (met_reduced v (seeking_met v t3 w.if-at-budget-3.false w.stride_on-at-in-loop-at-2.ensures w.times_factor.ensures w.if-b-eq1.true))
    ]

pub found-requires : goal.found-requires
found-requires c = last_reduced c.args.w.now (met (goal.at.found-requires c).Joined-c-eq1)

pub returns : goal.returns
returns c = c.found.ensures ∙ outcome_found c.args.w.now (met (goal.at.returns c).Joined-c-eq1)
