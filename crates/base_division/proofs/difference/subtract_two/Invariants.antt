-- The invariant: the places before i are those of the difference, the others stand as they did, and y is the
-- coefficient of u before i.
use Rattle.std.proofs.Common.{◌≡◌, get_or}
use Rattle.spec_arithmetic.specs.Polynomials.{mul}
use Rattle.spec_bridge.specs.Product.{shifted}
use Rattle.base_field.specs.Named.{ops}
use Rattle.base_division.specs.Passed.{Passed}
use Rattle.base_division.proofs.difference.subtract_two.Given as goal

abbrev pub invariant-loop-i : goal.invariant-loop-i
invariant-loop-i l = record {
  before : l.y ≡ shifted l.u.c 1 l.i;
  passed : Passed l.initial.v l.v (λ j. (ops l.f).sub (get_or l.initial.v j 0) (get_or (mul (ops l.f) l.w.c l.u.c) j 0)) l.i;
}
