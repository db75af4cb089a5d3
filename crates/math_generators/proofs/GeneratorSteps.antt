-- The proofs of specs/GeneratorSteps.
use Rattle.std.specs.Prelude.{ℕ, zero, suc, ◌+◌ as ◌+ₙ◌, ◌≡◌}
use native.Mathlib.Omega.{arith}
use Rattle.math_algebra.specs.Field.{Field}
use Rattle.math_algebra.specs.Polynomial.{Px, deg_unique}
use Rattle.math_surd.specs.Root.{Root}
use Rattle.math_surd.specs.Big.{Big}
use Rattle.math_algebra.specs.Finite.{Finite}
use Rattle.math_ideals.specs.Steps.{Steps, height, height_deg, height_more, height_sum, prior_sum}
use Rattle.math_generators.specs.Generators.{Generates}
use Rattle.math_generators.specs.GeneratorStep.{Stepped}
use Rattle.math_generators.proofs.GeneratorStep.{stepped}
use Rattle.math_generators.specs.GeneratorSteps as defs

module _ {A : Type 0} (K : Field A) {g : ℕ} {D : Px K} {o : Root K g D} (s : Steps K o) where
  abbrev Reached : (v k : ℕ) → Type 0
  Reached = defs.Reached K s

  -- ---- the proof
  reached_next : (v k : ℕ) → Reached v k → Reached v (suc k)
  unfolding prior_sum height_sum
  reached_next v k r = go (stepped K (s.follows k) r.generates r.x_finite r.y_finite)
    where
      go : Stepped K (s.follows k) r.x r.y → Reached v (suc k)
      go t = record {
        x = t.x';
        y = t.y';
        x_finite = t.x_finite;
        y_finite = t.y_finite;
        generates = t.generates;
        big = b.0;
        height_is = let e = b.1 in let e' = deg_unique K (s.follows k).deg (s.deg k) in let e'' = r.height_is in omega arith;
      }
        where
          b : (b' : Big K o t.x' t.y') × (b'.height +ₙ (s.follows k).κ ≡ r.big.height +ₙ height K s k)
          b = t.big (s.deg (suc k)) (height_deg K s k) (height_more K s k) r.big

  reached_after : (v k : ℕ) → Reached v 0 → Reached v k
  reached_after v zero r = r
  reached_after v (suc k) r = reached_next v k (reached_after v k r)

  pub reached : {x y : Px K} → Finite K x → Finite K y → Generates K D x y (s.Q 0) (s.P 0) → (b : Big K o x y) (k : ℕ) → Reached b.height k
  unfolding prior_sum height_sum
  reached {x} {y} f f' h b k = reached_after b.height k (record { x = x; y = y; x_finite = f; y_finite = f'; generates = h; big = b; height_is = omega arith })
