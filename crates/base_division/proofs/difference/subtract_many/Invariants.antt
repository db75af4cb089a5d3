-- The invariant: the places before i are those of the difference, the others stand as they did.
use Rattle.std.proofs.Common.{get_or}
use Rattle.spec_arithmetic.specs.Polynomials.{mul}
use Rattle.base_field.specs.Named.{ops}
use Rattle.base_division.specs.Passed.{Passed}
use Rattle.base_division.proofs.difference.subtract_many.Given as goal

abbrev pub invariant-loop-i : goal.invariant-loop-i
invariant-loop-i l = Passed l.initial.v l.v (λ j. (ops l.f).sub (get_or l.initial.v j 0) (get_or (mul (ops l.f) l.w.c l.u.c) j 0)) l.i
