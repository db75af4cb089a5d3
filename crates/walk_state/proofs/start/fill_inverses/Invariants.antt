-- The table below a holds inverses; the entry at q mod a, which is below a, is one of them. A product is
-- below 4,095², which fits.
use Rattle.walk_state.specs.Table.{Table}
use Rattle.walk_state.proofs.start.fill_inverses.Given as goal

abbrev pub invariant-loop-a : goal.invariant-loop-a
invariant-loop-a l = Table l.q l.inverses l.a
