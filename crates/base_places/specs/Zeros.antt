-- Past the places of the arguments: what is formed of zeros is 0.
use Rattle.std.specs.Prelude.{ℕ, ◌<◌, ◌≡◌}
use Rattle.std.proofs.Common.{ap, ap₂, ◌∙◌}
use Rattle.spec_arithmetic.specs.Field.{modulo}
use Rattle.spec_bridge.specs.Model.{add_zer_zer, sub_zer_zer, mul_by_zer}
use Rattle.spec_bridge.specs.Residues.{model}

module _ (q : ℕ) (pos : 0 < q) {x y : ℕ} where
  pub add_zeros : x ≡ 0 → y ≡ 0 → (modulo q).add x y ≡ 0
  add_zeros a b = ap₂ (modulo q).add a b ∙ add_zer_zer (model q pos)

  pub sub_zeros : x ≡ 0 → y ≡ 0 → (modulo q).sub x y ≡ 0
  sub_zeros a b = ap₂ (modulo q).sub a b ∙ sub_zer_zer (model q pos)

pub scale_zero : (q : ℕ) (pos : 0 < q) (k : ℕ) {x : ℕ} → x ≡ 0 → (modulo q).mul k x ≡ 0
scale_zero q pos k a = ap ((modulo q).mul k) a ∙ mul_by_zer (model q pos) k
