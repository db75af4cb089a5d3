-- The residue modulo q of a value of kind 12, "28-bit two's complement": it is below q and congruent to the
-- integer that the value stands for, and no other number is.
use Rattle.std.specs.Prelude.{ℕ, ◌+◌, ◌%◌, ◌≤◌, ◌<◌, ◌≡◌}
use Rattle.spec_arithmetic.specs.Field.{modulo}
use Rattle.spec_arithmetic.specs.Words.{values}
use Rattle.spec_several.specs.Several.{residue}

-- r is in 0 to q − 1. "28-bit two's complement": r ≡ v where 2v is below 2^28, and else r ≡ v − 2^28, that is
-- r + 2^28 ≡ v
pub record IsResidue (q v r : ℕ) : Type 0 where
  pub below : r < q
  pub plain : v + v < values → r % q ≡ v % q
  pub negative : values ≤ v + v → (r + values) % q ≡ v % q

abbrev pub Residues : Type 0
Residues = (q v : ℕ) → 0 < q → IsResidue q v (residue q v)

abbrev pub OneResidue : Type 0
OneResidue = (q v r s : ℕ) → IsResidue q v r → IsResidue q v s → r ≡ s

-- ---- the proof
module _ (q : ℕ) where
  -- a − 2^28
  abbrev pub less : ℕ → ℕ
  less a = (modulo q).sub a values
