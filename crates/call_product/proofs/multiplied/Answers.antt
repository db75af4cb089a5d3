-- What is refused first is the definition's refusal; two ideals give their product.
use Rattle.call_product.specs.Operands.{are_operands, ticket_refused, pairs_refused, are_read}
use Rattle.call_product.specs.Products.{passed_on, refused, multiplied}
use Rattle.call_product.proofs.multiplied.Goals as goal

pub returns-in_err-t : goal.returns-in_err-t
returns-in_err-t c = passed_on c.from_residual.ensures.1 (refused _ _ _ (ticket_refused _ _ _ _ c.in_err-t.ensures.refused))

pub returns-in_err-read_ideals : goal.returns-in_err-read_ideals
returns-in_err-read_ideals c =
    passed_on c.from_residual-in_err-read_ideals.ensures.1
    (refused _ _ _ (pairs_refused _ _ _ c.in_ok-t.t.surd c.in_ok-t.ensures.refused c.in_ok-t.ensures.read _ c.in_err-read_ideals.ensures.refused))

pub product-requires : goal.product-requires
product-requires c = are_operands (are_read _ _ _ c.in_ok-t.t.surd c.in_ok-t.ensures.refused c.in_ok-t.ensures.read c.in_ok-read_ideals.ensures.read)

pub returns : goal.returns
returns c =
    multiplied _ _ _ (are_read _ _ _ c.in_ok-t.t.surd c.in_ok-t.ensures.refused c.in_ok-t.ensures.read c.in_ok-read_ideals.ensures.read) c.product.ensures
