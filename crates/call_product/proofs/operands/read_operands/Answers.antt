-- What is refused first is the definition's refusal; where nothing is, both pairs have passed.
use Rattle.call_product.specs.Operands.{passed_on, ticket_refused, pairs_refused, none_refused}
use Rattle.call_product.proofs.operands.read_operands.Goals as goal

pub returns-in_err-t-clause-refused : goal.returns-in_err-t-clause-refused
returns-in_err-t-clause-refused c = passed_on _ _ c.from_residual.ensures.1 (ticket_refused _ _ _ _ c.in_err-t.ensures.refused)

pub returns-in_err-read_ideals-clause-refused : goal.returns-in_err-read_ideals-clause-refused
returns-in_err-read_ideals-clause-refused c =
    passed_on _ _ c.from_residual-in_err-read_ideals.ensures.1 (pairs_refused _ _ _ c.in_ok-t.t.surd c.in_ok-t.ensures.refused c.in_ok-t.ensures.read _ c.in_err-read_ideals.ensures.refused)

pub returns-clause-refused : goal.returns-clause-refused
returns-clause-refused c =
    let h = c.in_ok-read_ideals.ensures.read in
    none_refused _ _ _ c.in_ok-t.t.surd c.in_ok-t.ensures.refused c.in_ok-t.ensures.read h.0 h.1
