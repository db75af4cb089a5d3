-- The refusal is in the first place, and is the ticket's only outcome.
use Rattle.std.proofs.Common.{refl, sym, ap, arith, length}
use Rattle.spec_several.specs.Several.{sixteen_places}
use Rattle.base_refusals.specs.Number.{number_some}
use Rattle.call_regulators.proofs.Filled.{refused_only}
use Rattle.call_regulators.proofs.refused_ticket.Goals as goal

pub returns : goal.returns
unfolding sixteen_places
returns c =
    let e = refused_only _ _ c.requires (λ z. omega (arith, number_some c.args.refusal)) in
    record { words = refl; count = sym (ap length e); places = rw c.into.ensures (sym (ap sixteen_places e)) }
