-- The place read is the coefficient of x^n.
use Rattle.std.proofs.Common.{arith, ap, sym, not, eqb, get_or-take}
use Rattle.spec_definitions.specs.Ticket.{wrong_lead}
use Rattle.ticket_radicand.proofs.wrong_lead.Goals as goal

pub returns : goal.returns
unfolding wrong_lead
returns c =
    let radicand = c.args.radicand.now in
    ap (λ k. not (eqb k 1)) (sym (get_or-take radicand.size radicand.c c.args.n 0 (omega arith)))
