-- A refusal's P is zero; else the size is that of the last turn's P.
use Rattle.call_product.specs.Operands.{are_operands}
use Rattle.bench_ideals.specs.Turns.{product_none, product_some}
use Rattle.bench_ideals.proofs.bench_product.Goals as goal

pub products-requires : goal.products-requires
products-requires c = are_operands c.in-Ok.ensures.read

pub returns-in-Ok : goal.returns-in-Ok
returns-in-Ok c = product_some c.args.times c.in-Ok.ensures.read c.products.ensures.none c.products.ensures.some

pub returns-in-Err : goal.returns-in-Err
returns-in-Err c = product_none _ _ _ c.args.times _ c.in-Err.ensures.refused
