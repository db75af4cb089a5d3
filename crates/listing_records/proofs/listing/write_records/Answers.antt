use Rattle.std.proofs.Common.{◌+◌, ◌*◌, ◌-◌, ◌∙◌, arith, sym, ap}
use Rattle.std.proofs.lemmas.Grind.{common_steps}
use Rattle.walk_stride.specs.Walked.{size_some}
use Rattle.listing_words.specs.Stored.{stored}
use Rattle.listing_record.specs.Entry.{record_from}
use Rattle.listing_records.specs.Ideal.{current_held, rest_within}
use Rattle.listing_records.specs.Part.{put_stored}
use Rattle.listing_records.specs.Listed.{regulator_fits, place_fits, listed_first, listed_all, length_from, degree_within, listed_going, listed_next}
use Rattle.walk_run.specs.Found.{found_index}
use Rattle.listing_records.proofs.listing.write_records.Goals as goal

pub loop-i-init : goal.loop-i-init
loop-i-init c =
    record { index_is = c.begin_walk-at.ensures.index_is; listed = listed_first c.args.w.now.walk.now c.begin_walk-at.ensures }

pub write_record_of_walk-requires-clause-current : goal.write_record_of_walk-requires-clause-current
write_record_of_walk-requires-clause-current c =
    let t = c.loop-i.invariant.listed.walked in
    (current_held _ t, size_some _ t)

pub write_record_of_walk-requires-clause-rest : goal.write_record_of_walk-requires-clause-rest
write_record_of_walk-requires-clause-rest c = rest_within _ c.loop-i.invariant.listed.walked

pub write_record_of_walk-requires-clause-counts : goal.write_record_of_walk-requires-clause-counts
write_record_of_walk-requires-clause-counts c =
    let w = c.args.w.now in
    let i = found_index _ w.found in
    (grind (arith, common_steps), degree_within w.walk.now w.found c.loop-i.invariant.listed (grind (arith, common_steps)), regulator_fits w.walk.now w.found)

pub turn_on-at-requires : goal.turn_on-at-requires
turn_on-at-requires c = listed_going _ c.args.w.now.found c.loop-i.invariant.listed (grind (arith, common_steps))

pub loop-i-preserved : goal.loop-i-preserved
loop-i-preserved c =
    let w = c.args.w.now in
    let l = c.loop-i in
    let s = w.walk.now.root.surd.n + 4 in
    let place = l.i * s in
    let fits = place_fits w.walk.now w.found c.args.out.now c.requires l.i c.loop-i-test.true in
    let put =
    put_stored l.out (record_from w.walk.now w.r.0 l.current l.rest l.at) place (place + s - place)
    (omega (arith, length_from w.walk.now w.found l.current l.rest l.at)) (omega (arith, fits, l.invariant.listed.long)) c.write_record_of_walk.ensures
    ∙ ap (λ j. stored l.out (j * s) (record_from w.walk.now w.r.0 l.current l.rest l.at)) (sym l.invariant.index_is) in
    record { index_is = c.turn_on-at.ensures.taken.index_is ∙ ap (λ j. j + 1) l.invariant.index_is; listed = listed_next w.walk.now w.found l.invariant.listed put c.turn_on-at.ensures }

pub returns : goal.returns
returns c =
    listed_all c.args.w.now.walk.now c.args.w.now.found c.args.out.now c.requires c.loop-i.invariant.listed (grind (arith, common_steps))
