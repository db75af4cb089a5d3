use Rattle.std.proofs.Common.{ℕ, Some, ap, ◌∙◌}
use Rattle.walk_half.specs.Outcome.{end_of}
use Rattle.walk_half.specs.Search.{Searching, Ended, searching_first, searching_going, searching_tested, searching_next, searching_ended, ended_at}
use Rattle.walk_half.proofs.seek.seek_middle.Goals as goal
use Rattle.walk_half.proofs.seek.seek_middle.Goals.{In_default, In_default-stops, Joined-stops, in-Some, in_default+in-Some-stops, in_default+in_default-stops+in-Some-stops-2}

pub loop-by-init : goal.loop-by-init
loop-by-init c = searching_first c.args.w.now c.args.budget.steps c.begin_walk-at.ensures

pub stride_on-second-requires : goal.stride_on-second-requires
stride_on-second-requires c = searching_going c.args.w.now c.args.budget.few c.loop-by.invariant

pub stops-requires : goal.stops-requires
stops-requires c = searching_tested c.args.w.now c.args.budget.few c.loop-by.invariant c.stride_on-second.ensures

-- after the first of the three steps
second : (c : In_default) → Searching c.args.w.now c.args.budget.steps c.loop-by.b c.stride_on-second.new.after c.stride_on-second.new.remains c.stride_on-second.result
second c = searching_next c.args.w.now c.args.budget.few c.loop-by.invariant c.stride_on-second.ensures c.in_default.ensures

pub stride_on-third-requires : goal.stride_on-third-requires
stride_on-third-requires c = searching_going c.args.w.now c.args.budget.few (second (goal.at.stride_on-third-requires c).In_default)

pub stops-requires-in-loop-by : goal.stops-requires-in-loop-by
stops-requires-in-loop-by c = searching_tested c.args.w.now c.args.budget.few (second (goal.at.stops-requires-in-loop-by c).In_default) c.stride_on-third.ensures

-- after the second
third : (c : In_default-stops) → Searching c.args.w.now c.args.budget.steps c.stride_on-second.new.after c.stride_on-third.new.after c.stride_on-third.new.remains c.stride_on-third.result
third c =
    let w = c.args.w.now in
    let s = searching_next w c.args.budget.few c.loop-by.invariant c.stride_on-second.ensures c.in_default.ensures in
    searching_next w c.args.budget.few s c.stride_on-third.ensures c.in_default-stops.ensures

pub stride_on-at-requires : goal.stride_on-at-requires
stride_on-at-requires c = searching_going c.args.w.now c.args.budget.few (third (goal.at.stride_on-at-requires c).In_default-stops)

pub stops-requires-in-loop-by-2 : goal.stops-requires-in-loop-by-2
stops-requires-in-loop-by-2 c = searching_tested c.args.w.now c.args.budget.few (third (goal.at.stops-requires-in-loop-by-2 c).In_default-stops) c.stride_on-at.ensures

pub loop-by-preserved : goal.loop-by-preserved
loop-by-preserved c = searching_next c.args.w.now c.args.budget.few (third (goal.at.loop-by-preserved c).In_default-stops) c.stride_on-at.ensures c.in_default-stops-2.ensures

-- where the loop is left, after any of its three steps
ended : (c : Joined-stops) → Ended c.args.w.now c.args.budget.steps c.match-stops.by.1 c.match-stops.at c.match-stops.by.0
ended c =
    let v = c.args.w.now in
    let t = c.loop-by.invariant in
    elim c.match-stops.branch [
      | in-Some w ↦ ended_at w.at-is w.by-is (searching_ended v c.args.budget.few t c.stride_on-second.ensures w.in-Some.ensures)
      | in_default+in-Some-stops w ↦
          let t1 = searching_next v c.args.budget.few t c.stride_on-second.ensures w.in_default.ensures in
          ended_at w.at-is w.by-is (searching_ended v c.args.budget.few t1 w.stride_on-third.ensures w.in-Some-stops.ensures)
      | in_default+in_default-stops+in-Some-stops-2 w ↦
          let t1 = searching_next v c.args.budget.few t c.stride_on-second.ensures w.in_default.ensures in
          let t2 = searching_next v c.args.budget.few t1 w.stride_on-third.ensures w.in_default-stops.ensures in
          ended_at w.at-is w.by-is (searching_ended v c.args.budget.few t2 w.stride_on-at.ensures w.in-Some-stops-2.ensures)
    ]

pub ending-requires : goal.ending-requires
ending-requires c = rw c.top.ensures (ended (goal.at.ending-requires c).Joined-stops).range

pub returns : goal.returns
returns c =
    let w = c.match-stops in
    c.ending.ensures ∙ ap (λ (top : ℕ). end_of top w.by.1 w.at (Some w.by.0)) c.top.ensures ∙ (ended (goal.at.returns c).Joined-stops).outcome
