-- A list that is too short is refused as it is, any other receives the records.
use Rattle.std.proofs.Common.{arith, sym, ◌∙◌, leb-true, leb-false}
use Rattle.walk_run.specs.Found.{found_index}
use Rattle.listing_found.specs.Answers.{long_list, short_list}
use Rattle.listing_found.proofs.list_found.Goals as goal

pub room-requires : goal.room-requires
room-requires c =
    let w = c.args.w.now in
    let g = w.walk.now.root.surd.admitted.genus_most in
    (omega (arith, w.found.even), found_index _ w.found)

pub returns-then-not-room : goal.returns-then-not-room
returns-then-not-room c = rw c.into.ensures (short_list _ _ _ _ _ (leb-false _ _ (sym c.room.ensures ∙ c.if-not-room.true)))

pub returns : goal.returns
returns c =
    rw c.outcome.ensures (long_list _ _ _ _ _ _ (leb-true _ _ (sym c.room.ensures ∙ c.if-not-room.false)) (c.write_records.ensures _))
