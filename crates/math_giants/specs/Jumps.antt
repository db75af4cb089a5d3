-- Landings from giant steps: pairs (Q, P), the first of which is the ideal of index k and each later one the
-- giant step of the one before with the first. They are `landings`, with the distances that are added up with
-- f, and a landing is in the stock exactly if its pair and a stocked one have the same ideal. `jumps`: every
-- k has such pairs.
use Rattle.std.specs.Prelude.{ℕ, suc}
use Rattle.math_algebra.specs.Field.{Field}
use Rattle.math_algebra.specs.Polynomial.{Px}
use Rattle.math_surd.specs.Root.{Root}
use Rattle.math_surd.specs.Walk.{Walk}
use Rattle.math_surd.specs.Ideal.{SameIdeal}
use Rattle.math_giants.specs.GiantStep.{GiantStep, giant_Q, giant_P}

module _ {A : Type 0} (K : Field A) {g : ℕ} {D : Px K} {o : Root K g D} (w : Walk K o) where
  pub record Jumps (k : ℕ) : Type 0 where
    pub Q : ℕ → Px K
    pub P : ℕ → Px K
    pub start : SameIdeal K (Q 0) (P 0) (w.Q k) (w.P k)
    pub giant : (j : ℕ) → GiantStep K o (Q j) (P j) (Q 0) (P 0)
    pub next : (j : ℕ) → SameIdeal K (Q (suc j)) (P (suc j)) (giant_Q K (giant j)) (giant_P K (giant j))

  -- ---- the proof
  module _ {k : ℕ} (s : Jumps k) where
    pub record Index (j : ℕ) : Type 0 where
      pub at : ℕ
      pub same : SameIdeal K (s.Q j) (s.P j) (w.Q at) (w.P at)
