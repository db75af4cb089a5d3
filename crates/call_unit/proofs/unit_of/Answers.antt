-- The outcome of a walk that is not found leaves the lists as they are.
use Rattle.call_unit.specs.Unit.{kept, from_outcome}
use Rattle.call_unit.proofs.unit_of.Goals as goal

pub returns-in-Err : goal.returns-in-Err
returns-in-Err c =
    let e = c.in-Err.ensures in
    rw (← c.new-w.ensures) (from_outcome _ _ _ _ _ e.outcome (kept _ _ _ e.not_found))
