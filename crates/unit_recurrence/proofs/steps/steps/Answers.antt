use Rattle.std.proofs.Common.{ℕ, arith, sym, subst}
use Rattle.std.proofs.lemmas.Grind.{common_steps}
use Rattle.walk_stride.specs.Walked.{walked_first, going}
use Rattle.walk_stride.specs.Stride.{turn_walked}
use Rattle.walk_run.specs.Found.{found_index}
use Rattle.unit_recurrence.specs.Pairs.{Pairs}
use Rattle.unit_recurrence.proofs.steps.steps.Goals as goal

pub loop-before-init : goal.loop-before-init
loop-before-init c =
    record {
      within = omega (arith, c.begin_walk-at.ensures.index_is);
      walked = walked_first _ c.begin_walk-at.ensures;
      pairs = subst (λ (j : ℕ). Pairs c.args.w.now.walk.now c.args.w.now.m.0 j c.args.p.now c.args.s.now c.args.x.now c.args.y.now) (sym c.begin_walk-at.ensures.index_is) c.requires;
    }

pub turn_on-at-requires : goal.turn_on-at-requires
turn_on-at-requires c = going _ c.loop-before.invariant.walked (let b = found_index _ c.args.w.now.found in omega arith)

pub loop-before-preserved : goal.loop-before-preserved
loop-before-preserved c =
    let i = c.turn_on-at.ensures.taken.index_is in
    record {
      within = grind (arith, common_steps);
      walked = turn_walked _ c.loop-before.invariant.walked c.turn_on-at.ensures;
      pairs = subst (λ (j : ℕ). Pairs c.args.w.now.walk.now c.args.w.now.m.0 j c.advance.new.p c.advance.new.s c.advance.new.x c.advance.new.y) (sym i) c.advance.ensures;
    }
