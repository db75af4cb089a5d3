-- The pairs as the two folds leave their first places, with the quotient of the step.
use Rattle.std.proofs.Common.{◌+◌, arith, sym, ◌∙◌}
use Rattle.std.proofs.lemmas.List.{length-take-le}
use Rattle.walk_step.specs.Step.{division}
use Rattle.walk_stride.specs.Walked.{size_some, size_most, going}
use Rattle.walk_run.specs.Found.{found_index}
use Rattle.unit_room.specs.Room.{Room}
use Rattle.unit_recurrence.specs.Pairs.{first_bounded, quotient_fits, next_room, pairs_next}
use Rattle.unit_recurrence.proofs.steps.advance.Goals as goal
use Rattle.unit_recurrence.proofs.steps.advance.Goals.{After-partial-a}

pub partial-a-requires : goal.partial-a-requires
partial-a-requires c =
    let walk = c.requires.walked.1 in
    record {
      size_nonzero = (size_some _ walk, size_most _ walk);
      division = division (going _ walk (omega (arith, c.requires.index_below, found_index _ c.args.w.now.found))).ready;
    }

pub overflow_add-end : goal.overflow_add-end
overflow_add-end c =
    let t = going _ c.requires.walked.1 (omega (arith, c.requires.index_below, found_index _ c.args.w.now.found)) in
    let g = c.args.w.now.walk.now.root.surd.admitted.genus_most in
    omega (arith, t.degree_fits, c.partial-a.ensures.size)

-- the lists have room for the next convergents
room : (c : After-partial-a) → Room (c.args.at.degree.0 + c.partial-a.result.size) c.args.p.now c.args.s.now c.args.x.now c.args.y.now
room c = next_room _ c.requires.walked.1 _ c.partial-a.ensures.size c.args.w.now.m.0 c.requires.index_below c.requires.pairs.long

pub slice_bounds-fold-end : goal.slice_bounds-fold-end
slice_bounds-fold-end c = (room (goal.at.slice_bounds-fold-end c).After-partial-a).p_room

pub slice_bounds-fold-end-2 : goal.slice_bounds-fold-end-2
slice_bounds-fold-end-2 c = sym (length-take-le _ _ (room (goal.at.slice_bounds-fold-end-2 c).After-partial-a).p_room)

pub slice_bounds-fold-end-3 : goal.slice_bounds-fold-end-3
slice_bounds-fold-end-3 c = (room (goal.at.slice_bounds-fold-end-3 c).After-partial-a).x_room

pub slice_bounds-fold-end-4 : goal.slice_bounds-fold-end-4
slice_bounds-fold-end-4 c = sym (length-take-le _ _ (room (goal.at.slice_bounds-fold-end-4 c).After-partial-a).x_room)

pub fold-requires-clause-fits : goal.fold-requires-clause-fits
fold-requires-clause-fits c = quotient_fits _ c.requires.walked.1 _ c.partial-a.ensures.size c.args.w.now.m.0 c.requires.index_below (found_index _ c.args.w.now.found) _ c.partial-a.ensures.places

pub fold-requires-clause-bounded : goal.fold-requires-clause-bounded
fold-requires-clause-bounded c = (first_bounded _ _ c.requires.pairs _).0

pub slice_bounds-fold-end-5 : goal.slice_bounds-fold-end-5
slice_bounds-fold-end-5 c = (room (goal.at.slice_bounds-fold-end-5 c).After-partial-a).s_room

pub slice_bounds-fold-end-6 : goal.slice_bounds-fold-end-6
slice_bounds-fold-end-6 c = sym (length-take-le _ _ (room (goal.at.slice_bounds-fold-end-6 c).After-partial-a).s_room)

pub slice_bounds-fold-end-7 : goal.slice_bounds-fold-end-7
slice_bounds-fold-end-7 c = (room (goal.at.slice_bounds-fold-end-7 c).After-partial-a).y_room

pub slice_bounds-fold-end-8 : goal.slice_bounds-fold-end-8
slice_bounds-fold-end-8 c = sym (length-take-le _ _ (room (goal.at.slice_bounds-fold-end-8 c).After-partial-a).y_room)

pub fold-requires-2-clause-fits : goal.fold-requires-2-clause-fits
fold-requires-2-clause-fits c = quotient_fits _ c.requires.walked.1 _ c.partial-a.ensures.size c.args.w.now.m.0 c.requires.index_below (found_index _ c.args.w.now.found) _ c.partial-a.ensures.places

pub fold-requires-2-clause-bounded : goal.fold-requires-2-clause-bounded
fold-requires-2-clause-bounded c = (first_bounded _ _ c.requires.pairs _).1

pub returns : goal.returns
returns c =
    let r = room (goal.at.returns c).After-partial-a in
    pairs_next _ c.requires.walked.1 _ c.partial-a.ensures.size c.args.w.now.m.0 c.requires.index_below c.requires.pairs c.partial-a.ensures.places.at c.fold.ensures c.fold-2.ensures
    (record {
      p_long = c.fold.auto.p ∙ length-take-le _ _ r.p_room;
      s_long = c.fold-2.auto.p ∙ length-take-le _ _ r.s_room;
      x_long = c.fold.auto.x ∙ length-take-le _ _ r.x_room;
      y_long = c.fold-2.auto.x ∙ length-take-le _ _ r.y_room;
    })
