-- d and the remainder have at most the larger number of places.
use Rattle.std.proofs.Common.{arith, ◌≤◌}
use Rattle.std.proofs.Math.Nat.{le-max_left, le-max_right, max-le}
use Rattle.ideal_descend.proofs.Turn.{root_within}
use Rattle.ideal_descend.proofs.finish.Goals as goal

pub ideal_of-requires : goal.ideal_of-requires
ideal_of-requires c =
    let g = c.args.r.now.surd.admitted.genus_most in
    let e = c.max-places.ensures in
    let a = le-max_left c.args.at.top c.top.result in
    let b = le-max_right c.args.at.top c.top.result in
    let l : c.max-places.result ≤ 129 = rw e (max-le (let m = c.requires.sizes.1 in omega arith) (omega arith)) in
    record {
      sizes = (c.requires.sizes.0, l);
      held = (c.requires.held, root_within c.args.r.now _ (omega arith) l, c.requires.within _ (omega arith) (omega arith));
    }
