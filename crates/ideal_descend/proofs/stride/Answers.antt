-- The arrays are those of an index; the quotient is not constant, and the sum stays small.
use Rattle.std.proofs.Common.{arith}
use Rattle.ideal_descend.proofs.Stands.{q_some}
use Rattle.ideal_descend.proofs.Turn.{above, at_ready, even_past, quotient_some, at_next, sum_bound}
use Rattle.ideal_descend.proofs.stride.Goals as goal

pub advance-requires : goal.advance-requires
advance-requires c =
    let t = c.requires.going in
    record {
      sizes = (q_some t.begun t.stands.stands, t.stands.top_least, t.stands.top_most);
      ready = at_ready t.begun t.stands c.args.r.now.twice_is (above t c.requires.high);
    }

pub height-top-requires : goal.height-top-requires
height-top-requires c =
    let t = c.requires.going in
    record {
      from_bound = let l = t.stands.top_least in let m = t.stands.top_most in omega arith;
      equal = even_past t.begun t.stands c.args.r.now.twice_is (above t c.requires.high) c.advance.ensures;
    }

pub overflow_sub-result : goal.overflow_sub-result
overflow_sub-result c =
    let t = c.requires.going in
    let w = quotient_some t.begun t.stands c.args.r.now.twice_is (above t c.requires.high) c.advance.ensures c.height-top.ensures in
    omega arith

pub overflow_add-result : goal.overflow_add-result
overflow_add-result c =
    let t = c.requires.going in
    let w = sum_bound t.begun (at_next t.begun t.stands c.args.r.now.twice_is (above t c.requires.high) c.advance.ensures c.height-top.ensures) in
    omega arith
