-- The steps start at the ideal handed in, and the ideal that they end in is that of the last index.
use Rattle.std.proofs.Common.{arith}
use Rattle.base_polynomial.specs.Linear.{held_within}
use Rattle.ideal_operand.specs.Operand.{operand_p_size}
use Rattle.ideal_descend.proofs.Turn.{root_within}
use Rattle.ideal_reduce.specs.Start.{cofactor_sizes}
use Rattle.ideal_climb.specs.Located.{on_walk_operand}
use Rattle.ideal_climb.specs.Climbs.{start, climbs_first, climbs_sizes, climbs_held, rest_within, climbs_last}
use Rattle.ideal_climb.proofs.by_steps.Goals as goal

pub cofactor-requires : goal.cofactor-requires
cofactor-requires c =
    let t = start c.requires.on_walk.is in
    record {
      sizes = cofactor_sizes c.args.r.now t;
      held = (c.args.r.now.surd.held, t.held_q, t.held_p);
    }

pub sub_places-requires : goal.sub_places-requires
sub_places-requires c =
    let t = start c.requires.on_walk.is in
    let g = c.args.r.now.surd.admitted.genus_most in
    let k = operand_p_size c.args.r.now.surd.admitted (on_walk_operand c.requires.on_walk.is) in
    record {
      n_bound = omega arith;
      within = (root_within c.args.r.now _ (omega arith) (omega arith), held_within _ _ _ c.top-top.result t.held_p (omega arith));
    }

pub ascend-reached-requires : goal.ascend-reached-requires
ascend-reached-requires c = record {
  distances = c.requires.distances;
  climbs = climbs_first c.args.r.now c.requires.on_walk.is c.cofactor.ensures c.sub_places.ensures;
}

pub ideal_of-requires : goal.ideal_of-requires
ideal_of-requires c =
    let t = c.ascend-reached.ensures.climbs in
    let g = c.args.r.now.surd.admitted.genus_most in
    record {
      sizes = ((climbs_sizes t).0, (omega arith));
      held = (climbs_held t, root_within c.args.r.now _ (omega arith) (omega arith), rest_within t (omega arith));
    }

pub returns : goal.returns
returns c =
    let t = c.ascend-reached.ensures in
    climbs_last t.climbs t.last.0 t.last.1 c.ideal_of.ensures.q c.ideal_of.ensures.p
