use Rattle.std.proofs.Common.{rules}
use Rattle.bench_walk.specs.Steps.{not_asked_degree, asked_degree}
use Rattle.bench_walk.proofs.bench_half.Goals as goal

pub returns-in-Some-clause-degree : goal.returns-in-Some-clause-degree
returns-in-Some-clause-degree c = search (rules, asked_degree)

pub returns-in-None-clause-degree : goal.returns-in-None-clause-degree
returns-in-None-clause-degree c = search (rules, not_asked_degree)
