-- The steps start at index 1, since the first quotient is 0.
use Rattle.std.proofs.Common.{◌≤◌, arith}
use Rattle.ideal_descend.proofs.Turn.{root_within}
use Rattle.ideal_reduce.specs.Start.{cofactor_sizes, p_within}
use Rattle.ideal_reduce.specs.Next.{next_even, next_some, starts_next}
use Rattle.ideal_reduce.proofs.from_second.Goals as goal

pub cofactor-requires : goal.cofactor-requires
cofactor-requires c =
    let t = c.requires.start in
    record {
      sizes = cofactor_sizes c.args.r.now t;
      held = (c.args.r.now.surd.held, t.held_q, t.held_p);
    }

pub add_places-requires : goal.add_places-requires
add_places-requires c =
    let t = c.requires.start in
    let h = c.requires.high in
    let w = t.q_most in
    let g = c.args.r.now.surd.admitted.genus_most in
    let m : c.args.a.now.q.size ≤ 129 = omega arith in
    record {
      n_bound = m;
      within = (root_within c.args.r.now _ (omega arith) m, p_within c.args.r.now t);
    }

pub height-top-requires : goal.height-top-requires
height-top-requires c =
    let t = c.requires.start in
    let w = t.q_most in
    let g = c.args.r.now.surd.admitted.genus_most in
    record {
      from_bound = omega arith;
      equal = next_even c.args.r.now t c.requires.high c.add_places.ensures c.cofactor.ensures;
    }

pub overflow_sub-at : goal.overflow_sub-at
overflow_sub-at c =
    let w = next_some c.args.r.now c.requires.start c.requires.high c.add_places.ensures c.cofactor.ensures c.height-top.ensures in
    omega arith

pub descend-requires : goal.descend-requires
unfolding starts_next
descend-requires c = starts_next c.args.r.now c.requires.start c.requires.high c.add_places.ensures c.cofactor.ensures c.height-top.ensures

pub returns : goal.returns
unfolding starts_next
returns c = c.descend.ensures (starts_next c.args.r.now c.requires.start c.requires.high c.add_places.ensures c.cofactor.ensures c.height-top.ensures)
