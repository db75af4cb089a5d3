use Rattle.std.proofs.Common.{arith}
use Rattle.base_polynomial.specs.Result.{size_rem}
use Rattle.base_euclid.specs.Turn.{gcd_last, gcd_one, turn_held, gcd_turn}
use Rattle.base_euclid.proofs.gcd.+gcd.Goals as goal

pub gcd-requires : goal.gcd-requires
gcd-requires t c =
    let p = c.args.f.is_field.0 in
    let a = c.requires.0 in
    let b = c.requires.1 in
    let less = size_rem _ _ _ a _ _ b _ _ p (omega arith) c.remainder.ensures in
    (omega arith, (b, turn_held _ p a b (omega arith) c.remainder.ensures))

pub returns-then-b-eq0 : goal.returns-then-b-eq0
returns-then-b-eq0 t c = gcd_last _ c.args.f.is_field.0 c.requires.0 c.requires.1 c.if-b-eq0.true _ _ c.monic.ensures

pub returns-then-b-eq1 : goal.returns-then-b-eq1
returns-then-b-eq1 t c = gcd_one _ c.args.f.is_field.0 c.requires.0 c.requires.1 c.if-b-eq1.true _ _ c.monic-then-b-eq1.ensures

pub returns-else-b-eq1 : goal.returns-else-b-eq1
returns-else-b-eq1 t c = gcd_turn _ c.args.f.is_field.0 c.requires.0 c.requires.1 (omega (arith, c.if-b-eq0.false)) c.remainder.ensures _ _ c.gcd.ensures
