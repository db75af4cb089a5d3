-- With no turns the room holds 0 as at the start.
use Rattle.std.proofs.Common.{ap, ◌∙◌}
use Rattle.base_surd.specs.Surd.{name}
use Rattle.base_ideal.specs.declared.Ideal.{Ideal}
use Rattle.bench_ideals.proofs.turns.giants.Goals as goal

pub returns-clause-none : goal.returns-clause-none
returns-clause-none c = λ h. ap (λ (z : Ideal). z.p.size) (c.repeat.ensures.none h) ∙ (c.zeros-room.ensures.1 (name c.args.s.now)).size_is
