-- The invariant: the places from `from` to i are filled in.
use Rattle.std.proofs.Common.{get_or}
use Rattle.spec_arithmetic.specs.Polynomials.{mul}
use Rattle.base_field.specs.Named.{ops}
use Rattle.base_places.specs.Places.{Filled}
use Rattle.ideal_operand.specs.Upper.{upper}
use Rattle.ideal_operand.proofs.cofactor.upper_square.Given as goal

abbrev pub invariant-loop-i : goal.invariant-loop-i
invariant-loop-i l = Filled l.z (upper l.from (λ j. get_or (mul (ops l.f) l.p.c l.p.c) j 0)) l.i
