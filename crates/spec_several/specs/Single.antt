-- The single job at a prime q of the ticket, by places: the words of the definition are it, and where q is not
-- 0 no others are. Of its tests those of 1, 3 and 4 pass, and that of 5 where q is not 0.
use Rattle.std.specs.Prelude.{ℕ, ◌+◌, ◌≤◌, ◌<◌, ◌≡◌, List}
use Rattle.std.proofs.Math.ListN.{length}
use Rattle.spec_arithmetic.specs.Words.{values}
use Rattle.spec_sentences.specs.Sentences.{kind_at, value_at, coefficient}
use Rattle.spec_several.specs.Several.{job_words}
use Rattle.spec_several.specs.Residues.{IsResidue}
use Rattle.spec_several.specs.Shape.{RightShape}

-- v is "a single regulator job with the reduced coefficients", at the prime q: document 01's ticket of this q,
-- with n and b of w, and in the place of each coefficient its residue modulo q. A q of 0 has no residues.
pub record SingleJob (w : List ℕ) (q : ℕ) (v : List ℕ) : Type 0 where
  pub words : length v ≡ value_at w 0 + 5
  pub prime_word : (kind_at v 0 ≡ 1) × (value_at v 0 ≡ q)
  pub degree_word : (kind_at v 1 ≡ 2) × (value_at v 1 ≡ value_at w 0)
  pub coefficients : (j : ℕ) → j ≤ value_at w 0 → kind_at v (j + 2) ≡ 3
  pub reduced : 0 < q → (j : ℕ) → j ≤ value_at w 0 → IsResidue q (value_at w (j + 1)) (coefficient v j)
  pub budget_word : (kind_at v (value_at w 0 + 3) ≡ 4) × (value_at v (value_at w 0 + 3) ≡ value_at w (value_at w 0 + 2))
  pub end_word : (kind_at v (value_at w 0 + 4) ≡ 15) × (value_at v (value_at w 0 + 4) ≡ value_at w 0 + 4)

module _ (w : List ℕ) {k : ℕ} (shape : RightShape w k) (q : ℕ) (fits : q < values) where
  abbrev v : List ℕ
  v = job_words w q
