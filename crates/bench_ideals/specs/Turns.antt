-- What is kept of so many products or giant steps that are all the same: the size of the P of one of them.
use Rattle.std.specs.Prelude.{ℕ, zero, suc, ◌<◌, ◌≡◌, refl, List, [], length}
use Rattle.std.proofs.Common.{arith, sym, ap, ◌∙◌}
use Rattle.spec_definitions.specs.Walk.{Ideal as Pair}
use Rattle.spec_definitions.specs.Products.{product_answer, giant_answer, wrong_distance}
use Rattle.base_refusals.specs.declared.Refusal.{Refusal}
use Rattle.base_refusals.specs.Number.{number_of}
use Rattle.base_polynomial.specs.declared.Poly.{Poly}
use Rattle.base_surd.specs.Surd.{name}
use Rattle.base_ideal.specs.declared.Ideal.{Ideal}
use Rattle.ideal_operand.specs.Ideal.{Multiplied}
use Rattle.ideal_giant.specs.declared.Shift.{Shift}
use Rattle.ideal_giant.specs.Stepped.{Stepped}
use Rattle.call_product.specs.declared.operands.Operands.{Operands}
use Rattle.call_product.specs.Operands.{operands_refusal, AreRead}
use Rattle.call_product.specs.Products as products
use Rattle.call_giant_step.specs.GiantSteps as giants

-- s after any turn, 0 before the first
unfoldable pub made : ℕ → ℕ → ℕ
made zero s = 0
made (suc k) s = s

unfoldable pub product_turns : List ℕ → Pair ℕ → Pair ℕ → ℕ → ℕ
product_turns w x y times = made times (length (product_answer w x y).p)

unfoldable pub giant_turns : List ℕ → Pair ℕ → Pair ℕ → ℕ → ℕ
giant_turns w x y times = made times (length (giant_answer w x 0 y 0).p)

-- the size after so many turns, by what any turn leaves
made_by : {n s : ℕ} (times : ℕ) → (times ≡ 0 → n ≡ 0) → (0 < times → n ≡ s) → n ≡ made times s
unfolding made
made_by zero none some = none refl
made_by (suc k) none some = some (omega arith)

made_zero : (times : ℕ) {l : List ℕ} → l ≡ [] → 0 ≡ made times (length l)
made_zero times e = made_by times (λ z. refl) (λ h. sym (ap length e))

-- ---- a refusal's P is zero
module _ (w : List ℕ) (x y : Pair ℕ) (times : ℕ) (r : Refusal) (t : number_of r ≡ operands_refusal w x y) where
  pub product_none : 0 ≡ product_turns w x y times
  unfolding product_turns
  product_none = made_zero times (products.refused w x y t).zeros.2

  pub giant_none : 0 ≡ giant_turns w x y times
  unfolding giant_turns
  giant_none = made_zero times (giants.refused w x 0 y 0 t).zeros.1

-- ---- where nothing is refused
module _ {w : List ℕ} {x y : Pair ℕ} (times : ℕ) {o : Operands} (t : AreRead w x y o) {n : ℕ} (none : times ≡ 0 → n ≡ 0) where
  pub product_some : (0 < times → (common : Poly) × (z : Ideal) × Multiplied o.surd o.x o.y common z × (n ≡ z.p.size)) → n ≡ product_turns w x y times
  unfolding product_turns
  product_some some = made_by times none (λ h. let e = some h in e.3 ∙ ((products.multiplied w x y t e.2).product_is.p_is (name o.surd)).size_is)

  pub giant_some : (0 < times → (z : Ideal) × (to : Shift) × Stepped o.surd o.x 0 o.y 0 z to × (n ≡ z.p.size)) → n ≡ giant_turns w x y times
  unfolding giant_turns wrong_distance
  giant_some some = made_by times none (λ h. let e = some h in e.3 ∙ ((giants.stepped w x 0 y 0 t refl e.2).giant_step_is.p_is (name o.surd)).size_is)
