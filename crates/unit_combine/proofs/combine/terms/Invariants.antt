-- The sum is the first i terms of the coefficient. The terms from the size of a on are 0.
use Rattle.std.proofs.Common.{◌≡◌}
use Rattle.spec_bridge.specs.Product.{dots}
use Rattle.unit_combine.proofs.combine.terms.Given as goal

abbrev pub invariant-loop-i : goal.invariant-loop-i
invariant-loop-i l = l.sum ≡ dots l.a.c l.from l.k l.i
