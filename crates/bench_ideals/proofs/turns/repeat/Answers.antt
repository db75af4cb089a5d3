use Rattle.std.proofs.Common.{arith, refl}
use Rattle.bench_ideals.proofs.turns.repeat.Goals as goal

pub loop-preserved : goal.loop-preserved
loop-preserved g c = (c.requires, λ h. absurd (omega arith), λ h. (_, _, c.turn.ensures, refl))

pub returns-clause-some : goal.returns-clause-some
returns-clause-some g c = λ h. c.loop.invariant.2 (omega arith)
