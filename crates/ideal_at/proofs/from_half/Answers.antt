-- The giant step of the ideal with itself lands on the walk, not past y; the single steps go on from there.
use Rattle.std.proofs.Common.{arith}
use Rattle.ideal_at.specs.FromHalf.{cast_fits, cast_is, operand, distance_near, distance_landed, landed_near, landed}
use Rattle.ideal_at.proofs.from_half.Goals as goal

pub giant-t-requires : goal.giant-t-requires
giant-t-requires c =
    let s = c.args.r.now.surd in
    let x = operand s c.args.y.0 c.requires.last in
    let e = distance_near s c.args.y.0 c.requires.last c.requires.y_le_farthest in
    record {
      operands = (x, x);
      distances = (e, e);
    }

pub overflow_cast-t : goal.overflow_cast-t
overflow_cast-t c =
    let s = c.args.r.now.surd in
    let e = landed_near s c.args.y.0 c.requires.last in
    let l = c.requires.y_le_farthest in
    cast_fits (distance_landed s c.args.y.0 c.requires.last c.giant-t.ensures) (omega arith)

pub climb-requires : goal.climb-requires
climb-requires c =
    let s = c.args.r.now.surd in
    let u = c.giant-t.ensures in
    let e = landed_near s c.args.y.0 c.requires.last in
    let l = c.requires.y_le_farthest in
    let d = cast_is (distance_landed s c.args.y.0 c.requires.last u) (omega arith) in
    record {
      on_walk = landed s c.args.y.0 c.requires.last u d;
      distances = (omega arith, l);
    }
