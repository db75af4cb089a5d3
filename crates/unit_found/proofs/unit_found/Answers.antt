-- Lists that are too short are refused as they are, any others receive the unit.
use Rattle.std.proofs.Common.{ap, not}
use borrow.Author.Tests.{not-true, not-false}
use Rattle.unit_room.specs.Room.{room_long, room_short}
use Rattle.unit_found.specs.Answers.{long_lists, short_lists}
use Rattle.unit_found.proofs.unit_found.Goals as goal

pub returns-then-not-room : goal.returns-then-not-room
returns-then-not-room c =
    rw c.into.ensures (short_lists _ _ _ _ _ (room_short _ _ _ _ _ _ c.room.ensures (not-true _ (ap not c.if-not-room.true))))

pub returns : goal.returns
returns c =
    rw c.outcome.ensures (long_lists _ _ _ _ _ _ (room_long _ _ _ _ _ _ c.room.ensures (not-false _ (ap not c.if-not-room.false))) (c.write_unit.ensures _))
