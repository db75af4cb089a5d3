-- The invariant: the coefficients from k on are the quotient's, zeros stand below.
use Rattle.std.proofs.Common.{get_or}
use Rattle.spec_arithmetic.specs.Field.{prime}
use Rattle.base_places.specs.Down.{Down}
use Rattle.walk_step.specs.Step.{step_quo}
use Rattle.walk_step.proofs.step.quotient.Given as goal

abbrev pub invariant-loop-k : goal.invariant-loop-k
invariant-loop-k v = Down v.a (λ i. get_or (step_quo (prime v.f.q) v.twice v.current v.rest) i 0) v.k
