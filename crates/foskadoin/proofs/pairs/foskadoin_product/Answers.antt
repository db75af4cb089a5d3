-- `foskadoin_product` meets its contract: the answer of the engine, with its polynomials in the lent arrays.
use Rattle.std.proofs.Common.{◌∙◌}
use Rattle.out_polynomials.specs.Products.{product_written}
use Rattle.foskadoin.proofs.pairs.foskadoin_product.Goals as goal

pub returns : goal.returns
returns c =
    let a = c.product-a.ensures in
    let e = c.put_product.ensures in
    record { words = e.words ∙ a.words; says = product_written a.says e.number e.product e.zeros }
