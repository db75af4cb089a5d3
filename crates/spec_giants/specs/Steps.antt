-- A step sees only the ideal: the steps from any pair with the ideal of an index of the walk have the ideals of
-- the indices after it.
use Rattle.std.specs.Prelude.{ℕ, zero, suc, ◌+◌, List}
use Rattle.std.proofs.Common.{zero-add, suc-add}
use Rattle.math_algebra.specs.Field.{Field}
use Rattle.math_algebra.specs.Polynomial.{F, Px}
use Rattle.math_surd.specs.Step.{State}
use Rattle.math_surd.proofs.Ideal.{next_same}
use Rattle.math_surd.proofs.Same.{walk_follows}
use Rattle.spec_arithmetic.specs.Field.{Ops}
use Rattle.spec_definitions.specs.Walk.{Ideal, walk, steps}
use Rattle.spec_bridge.specs.Model.{Model, series}
use Rattle.spec_laws.specs.Surd.{Surd}
use Rattle.spec_laws.specs.Fraction.{root, fraction}
use Rattle.spec_laws.specs.Reduction.{follows_at}
use Rattle.spec_giants.specs.Normal.{SameLists}

module _ {A B : Type 0} {o : Ops A} {K : Field B} {M : Model o (F K)} {g : ℕ} {D d : List A} (z : Surd K M g D d) (x : Ideal A) {C : Px K} (st : State K (series M D) (series M x.q) C (series M x.p)) (i : ℕ) (s : SameLists K M x (walk o D d i)) where
  none_same : SameLists K M (steps o D d x 0) (walk o D d i)
  unfolding steps
  none_same = s

  pub steps_same : (j : ℕ) → SameLists K M (steps o D d x j) (walk o D d (j + i))
  steps_same zero = rw (zero-add i) none_same
  steps_same (suc j) = rw (suc-add j i) (next_same K (root z) (steps_same j) (follows_at z x st j) (walk_follows K (fraction z) (j + i)))
