-- The outcome is the definitions', and T3 holds of every outcome that is said so.
use Rattle.std.proofs.Common.{refl}
use Rattle.call_regulator.specs.Regulator.{outcome_said, least}
use Rattle.call_regulator.proofs.regulator.Goals as goal

pub returns : goal.returns
returns c =
    let e = outcome_said _ _ (c.outcome_of.ensures _ (record { refused = c.read_ticket.ensures.refused; read = c.read_ticket.ensures.read })) in
    record {
      words = refl;
      says = e;
      least = least _ _ e;
    }
