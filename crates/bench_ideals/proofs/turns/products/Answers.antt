-- With no turns the room holds 0 as at the start.
use Rattle.std.proofs.Common.{ap, ◌∙◌}
use Rattle.base_surd.specs.Surd.{name}
use Rattle.call_product.specs.declared.IdealProduct.{IdealProduct}
use Rattle.bench_ideals.proofs.turns.products.Goals as goal

pub returns-clause-none : goal.returns-clause-none
returns-clause-none c = λ h. ap (λ (r : IdealProduct). r.ideal.p.size) (c.repeat.ensures.none h) ∙ (c.zeros.ensures.1 (name c.args.s.now)).size_is
