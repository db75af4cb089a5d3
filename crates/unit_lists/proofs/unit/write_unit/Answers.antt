-- The pairs of lists as they start, and the steps from there: p and s hold the last convergents, and the
-- unit once these are divided by the leading coefficient of p.
use Rattle.std.proofs.Common.{suc, add-one, refl, ap, ◌∙◌}
use Rattle.std.proofs.lemmas.List.{length-take-le}
use Rattle.walk_run.specs.Found.{found_degree, found_index}
use Rattle.unit_recurrence.specs.Pairs.{pairs_first, pairs_bounded}
use Rattle.unit_lists.specs.Lists.{unit_written}
use Rattle.unit_lists.proofs.unit.write_unit.Goals as goal

pub start_lists-requires-clause-m_lt_budgets : goal.start_lists-requires-clause-m_lt_budgets
start_lists-requires-clause-m_lt_budgets c = found_index _ c.args.w.now.found

pub steps-requires : goal.steps-requires
steps-requires c =
    let l = c.start_lists.auto in
    let count = add-one c.args.w.now.r.0 ∙ ap suc (found_degree _ c.args.w.now.found) in
    pairs_first _ _ c.start_lists.ensures.pair c.start_lists.ensures.pair_2
    (record {
      p_long = l.p ∙ length-take-le _ _ c.requires.p_room ∙ count;
      s_long = l.s ∙ length-take-le _ _ c.requires.s_room ∙ count;
      x_long = l.x ∙ length-take-le _ _ c.requires.x_room ∙ count;
      y_long = l.y ∙ length-take-le _ _ c.requires.y_room ∙ count;
    })

pub divide_by_lead-requires-clause-bounded : goal.divide_by_lead-requires-clause-bounded
divide_by_lead-requires-clause-bounded c =
    let b = pairs_bounded _ _ c.steps.ensures in
    (b.0.0, b.1.0)

pub returns : goal.returns
returns c =
    let l = c.divide_by_lead in
    unit_written _ c.steps.ensures c.args.w.now.r.0 _ (found_degree _ c.args.w.now.found) refl _ _ _ _ l.auto.p l.auto.s l.ensures.written l.ensures.written_2 (c.fill.ensures.after (λ y h. h)) (c.fill-2.ensures.after (λ y h. h))
