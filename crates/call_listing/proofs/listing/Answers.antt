-- T3 of the outcome follows from what is said.
use Rattle.std.proofs.Common.{sym}
use Rattle.spec_demands.proofs.LeastAnswers.{t3_listing}
use Rattle.call_listing.proofs.listing.Goals as goal

pub returns-clause-least : goal.returns-clause-least
returns-clause-least c =
    let a = c.listing_outcome.ensures _ (record { refused = c.read_ticket.ensures.refused; read = c.read_ticket.ensures.read }) in
    t3_listing _ _ _ (sym a.says)
