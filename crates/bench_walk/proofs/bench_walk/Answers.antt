use Rattle.std.proofs.Common.{rules}
use Rattle.bench_walk.specs.Steps.{not_asked_degree, not_asked_product, asked_degree, asked_product}
use Rattle.bench_walk.proofs.bench_walk.Goals as goal

pub returns-in-Some-clause-degree : goal.returns-in-Some-clause-degree
returns-in-Some-clause-degree c = search (rules, asked_degree)

pub returns-in-Some-clause-product : goal.returns-in-Some-clause-product
returns-in-Some-clause-product c = search (rules, asked_product)

pub returns-in-None-clause-degree : goal.returns-in-None-clause-degree
returns-in-None-clause-degree c = search (rules, not_asked_degree)

pub returns-in-None-clause-product : goal.returns-in-None-clause-product
returns-in-None-clause-product c = search (rules, not_asked_product)
