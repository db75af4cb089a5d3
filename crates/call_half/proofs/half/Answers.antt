-- The outcome is the definitions', and T3 holds of every outcome that is said so.
use Rattle.std.proofs.Common.{refl}
use Rattle.call_half.specs.Half.{half_outcome_said, least_half}
use Rattle.call_half.proofs.half.Goals as goal

pub returns : goal.returns
returns c =
    let e = half_outcome_said _ _ (c.half_outcome.ensures _ (record { refused = c.read_ticket.ensures.refused; read = c.read_ticket.ensures.read })) in
    record {
      words = refl;
      says = e;
      least = least_half _ _ e;
    }
