-- The places before i are filled, the rest are 0.
use Rattle.base_places.specs.Places.{FilledBy}
use Rattle.base_places.proofs.linear.fill_places.Given as goal

abbrev pub invariant-loop-i : goal.invariant-loop-i
invariant-loop-i g l = FilledBy (goal.F-post g l.place) l.i l.z
