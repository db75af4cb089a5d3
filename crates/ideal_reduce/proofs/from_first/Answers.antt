-- The steps start at the ideal itself.
use Rattle.std.proofs.Common.{◌≤◌, arith}
use Rattle.ideal_descend.proofs.Turn.{root_within}
use Rattle.ideal_reduce.specs.Start.{cofactor_sizes, p_within, rest_is, starts}
use Rattle.ideal_reduce.proofs.from_first.Goals as goal

pub cofactor-requires : goal.cofactor-requires
cofactor-requires c =
    let t = c.requires.start in
    record {
      sizes = cofactor_sizes c.args.r.now t;
      held = (c.args.r.now.surd.held, t.held_q, t.held_p);
    }

pub sub_places-requires : goal.sub_places-requires
sub_places-requires c =
    let t = c.requires.start in
    let h = c.requires.high in
    let w = t.q_most in
    let g = c.args.r.now.surd.admitted.genus_most in
    let m : c.args.a.now.q.size ≤ 129 = omega arith in
    record {
      n_bound = m;
      within = (root_within c.args.r.now _ (omega arith) m, p_within c.args.r.now t);
    }

pub descend-requires : goal.descend-requires
unfolding starts
descend-requires c =
    let t = c.requires.start in
    starts c.args.r.now t c.requires.high (rest_is c.args.r.now t c.sub_places.ensures) c.cofactor.ensures.places

pub returns : goal.returns
unfolding starts
returns c =
    let t = c.requires.start in
    c.descend.ensures (starts c.args.r.now t c.requires.high (rest_is c.args.r.now t c.sub_places.ensures) c.cofactor.ensures.places)
