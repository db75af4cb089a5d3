-- The definition's two rules, for the divisor and its first factor.
use Rattle.std.proofs.Common.{arith}
use Rattle.base_euclid.specs.Turn.{last_gcd, last_u, turn_held, turn_gcd, turn_u}
use Rattle.base_euclid.proofs.bezout.first_factor.Goals as goal

pub bezout-requires : goal.bezout-requires
bezout-requires c = (c.requires.1, turn_held _ c.args.f.is_field.0 c.requires.0 c.requires.1 (omega (arith, c.if-b-eq0.false)) c.remainder.ensures)

pub returns-then-b-eq0-clause-gcd : goal.returns-then-b-eq0-clause-gcd
returns-then-b-eq0-clause-gcd c = last_gcd _ c.args.f.is_field.0 c.requires.0 c.requires.1 c.if-b-eq0.true _ _ c.bezout_zero.ensures.gcd

pub returns-then-b-eq0-clause-first : goal.returns-then-b-eq0-clause-first
returns-then-b-eq0-clause-first c = last_u _ c.args.f.is_field.0 c.requires.0 c.requires.1 c.if-b-eq0.true _ _ c.bezout_zero.ensures.first

pub returns-else-b-eq0-clause-gcd : goal.returns-else-b-eq0-clause-gcd
returns-else-b-eq0-clause-gcd c =
    turn_gcd _ c.args.f.is_field.0 c.requires.0 c.requires.1 (omega (arith, c.if-b-eq0.false)) c.remainder.ensures _ _ c.bezout.ensures.gcd

pub returns-else-b-eq0-clause-first : goal.returns-else-b-eq0-clause-first
returns-else-b-eq0-clause-first c =
    turn_u _ c.args.f.is_field.0 c.requires.0 c.requires.1 (omega (arith, c.if-b-eq0.false)) c.remainder.ensures _ _ c.bezout.ensures.second
