-- The residue of a value that stands for a negative number, by the field's operations.
use Rattle.std.specs.Prelude.{ℕ, ◌+◌, ◌-◌, ◌%◌, ◌≤◌, ◌≡◌}
use Rattle.std.proofs.Math.Nat.{mod-mod, mod-add-mod}
use Rattle.std.proofs.Common.{sym, ap, ◌∙◌}
use Rattle.spec_arithmetic.specs.Field.{modulo}
use Rattle.spec_arithmetic.specs.Words.{values}
use Rattle.spec_several.specs.Several.{negatives, residue}
use Rattle.spec_several.proofs.Residues.{negative_residue}

-- it is the difference of two residues
pub negative_difference : (q v : ℕ) → negatives ≤ v → residue q v ≡ (modulo q).sub (v % q) (values % q)
negative_difference q v h = negative_residue q v h ∙ sym (ap (λ (y : ℕ). (v % q + (q - y)) % q) (mod-mod values q) ∙ mod-add-mod v q (q - values % q))
