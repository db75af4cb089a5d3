use Rattle.std.proofs.Common.{arith, ◌<◌}
use Rattle.base_polynomial.specs.Result.{size_rem}
use Rattle.base_division.specs.Difference.{held_fits}
use Rattle.base_euclid.specs.Turn.{last_gcd, last_u, last_v, one_gcd, one_u, one_v, turn_held, turn_gcd, turn_u, turn_v_held, turn_u_held, turn_w_held, turn_fits, turn_v}
use Rattle.base_euclid.proofs.bezout.+bezout.Goals as goal

pub bezout-requires : goal.bezout-requires
bezout-requires t c =
    let p = c.args.f.is_field.0 in
    let a = c.requires.0 in
    let b = c.requires.1 in
    let r = c.divide.ensures.remainder in
    let less = size_rem _ _ _ a _ _ b _ _ p (omega arith) r in
    (omega arith, (b, turn_held _ p a b (omega arith) r))

pub subtract_product-requires-clause-places : goal.subtract_product-requires-clause-places
subtract_product-requires-clause-places t c =
    let some : 0 < c.args.b.now.size = omega (arith, c.if-b-eq0.false) in
    turn_fits _ c.args.f.is_field.0 c.requires.0 c.requires.1 some c.divide.ensures.remainder c.bezout.ensures.first c.bezout.ensures.second c.divide.ensures.quotient

pub subtract_product-requires-clause-fits : goal.subtract_product-requires-clause-fits
subtract_product-requires-clause-fits t c =
    let p = c.args.f.is_field.0 in
    let a = c.requires.0 in
    let b = c.requires.1 in
    let r = c.divide.ensures.remainder in
    let u = c.bezout.ensures.first in
    let v = c.bezout.ensures.second in
    let some : 0 < c.args.b.now.size = omega (arith, c.if-b-eq0.false) in
    (held_fits (turn_v_held _ p a b some r u v), held_fits (turn_w_held _ p a b some r u v c.divide.ensures.quotient), held_fits (turn_u_held _ p a b some r u v))

pub returns-then-b-eq0-clause-gcd : goal.returns-then-b-eq0-clause-gcd
returns-then-b-eq0-clause-gcd t c = last_gcd _ c.args.f.is_field.0 c.requires.0 c.requires.1 c.if-b-eq0.true _ _ c.bezout_zero.ensures.gcd

pub returns-then-b-eq0-clause-first : goal.returns-then-b-eq0-clause-first
returns-then-b-eq0-clause-first t c = last_u _ c.args.f.is_field.0 c.requires.0 c.requires.1 c.if-b-eq0.true _ _ c.bezout_zero.ensures.first

pub returns-then-b-eq0-clause-second : goal.returns-then-b-eq0-clause-second
returns-then-b-eq0-clause-second t c = last_v _ c.args.f.is_field.0 c.requires.0 c.requires.1 c.if-b-eq0.true _ _ c.bezout_zero.ensures.second

pub returns-then-b-eq1-clause-gcd : goal.returns-then-b-eq1-clause-gcd
returns-then-b-eq1-clause-gcd t c = one_gcd _ c.args.f.is_field.0 c.requires.0 c.requires.1 c.if-b-eq1.true _ _ c.bezout_zero-then-b-eq1.ensures.gcd

pub returns-then-b-eq1-clause-first : goal.returns-then-b-eq1-clause-first
returns-then-b-eq1-clause-first t c = one_u _ c.args.f.is_field.0 c.requires.0 c.requires.1 c.if-b-eq1.true _ _ c.bezout_zero-then-b-eq1.ensures.second

pub returns-then-b-eq1-clause-second : goal.returns-then-b-eq1-clause-second
returns-then-b-eq1-clause-second t c = one_v _ c.args.f.is_field.0 c.requires.0 c.requires.1 c.if-b-eq1.true _ _ c.bezout_zero-then-b-eq1.ensures.first

pub returns-else-b-eq1-clause-gcd : goal.returns-else-b-eq1-clause-gcd
returns-else-b-eq1-clause-gcd t c =
    turn_gcd _ c.args.f.is_field.0 c.requires.0 c.requires.1 (omega (arith, c.if-b-eq0.false)) c.divide.ensures.remainder _ _ c.bezout.ensures.gcd

pub returns-else-b-eq1-clause-first : goal.returns-else-b-eq1-clause-first
returns-else-b-eq1-clause-first t c =
    turn_u _ c.args.f.is_field.0 c.requires.0 c.requires.1 (omega (arith, c.if-b-eq0.false)) c.divide.ensures.remainder _ _ c.bezout.ensures.second

pub returns-else-b-eq1-clause-second : goal.returns-else-b-eq1-clause-second
returns-else-b-eq1-clause-second t c =
    let some : 0 < c.args.b.now.size = omega (arith, c.if-b-eq0.false) in
    turn_v _ c.args.f.is_field.0 c.requires.0 c.requires.1 some c.divide.ensures.remainder c.bezout.ensures.first c.bezout.ensures.second c.divide.ensures.quotient _ _ c.subtract_product.ensures
