-- Where the steps end, the pair is the reduced one; else it is that of the next index.
use Rattle.std.proofs.Common.{arith}
use Rattle.ideal_descend.proofs.Turn.{rest_within, reduces, going_held, going_some, going_less, going_next}
use Rattle.ideal_descend.proofs.+take_turns.Goals as goal

pub finish-requires : goal.finish-requires
finish-requires t c =
    let i = c.requires in
    record {
      sizes = (going_some i, i.stands.top_most);
      held = going_held i;
      within = λ n a b. rest_within i.begun i.stands n a b;
    }

pub returns-then-b-top : goal.returns-then-b-top
returns-then-b-top t c =
    λ i. reduces i (omega arith) c.finish.ensures.q c.finish.ensures.p c.finish.ensures.sum

pub take_turns-requires : goal.take_turns-requires
unfolding going_next
take_turns-requires t c =
    let u = c.stride-to.ensures in
    let less = going_less c.requires (omega arith) u in
    (omega arith, going_next c.requires (omega arith) u)

pub returns : goal.returns
unfolding going_next
returns t c = λ i. c.take_turns.ensures (going_next i (omega arith) c.stride-to.ensures)
