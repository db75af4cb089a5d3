-- A refusal's P is zero; else the size is that of the last turn's P.
use Rattle.call_product.specs.Operands.{are_operands}
use Rattle.bench_ideals.specs.Turns.{giant_none, giant_some}
use Rattle.bench_ideals.proofs.bench_giant_step.Goals as goal

pub giants-requires : goal.giants-requires
giants-requires c = are_operands c.in-Ok.ensures.read

pub returns-in-Ok : goal.returns-in-Ok
returns-in-Ok c = giant_some c.args.times c.in-Ok.ensures.read c.giants.ensures.none c.giants.ensures.some

pub returns-in-Err : goal.returns-in-Err
returns-in-Err c = giant_none _ _ _ c.args.times _ c.in-Err.ensures.refused
