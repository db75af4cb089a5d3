-- A product's coefficients as loops form them: the terms in which a factor is past its places may be left out
-- at both ends.
use Rattle.std.specs.Prelude.{◌≡◌, List, ℕ, suc, ◌+◌, ◌-◌, ◌%◌, ◌<◌, ◌≤◌, get_or}
use Rattle.std.proofs.Common.{ap, ◌∙◌, ⊎_elim, arith}
use Rattle.std.proofs.Math.ListN.{get_or-eq_default}
use Rattle.math_ring.specs.Order.{le_or_lt}
use Rattle.spec_arithmetic.specs.Field.{modulo}
use Rattle.spec_arithmetic.specs.Polynomials.{mul}
use Rattle.spec_bridge.specs.Trim.{trim_le}
use Rattle.spec_bridge.specs.Lengths.{length_mul}
use Rattle.spec_bridge.specs.Residues.{model}
use Rattle.spec_bridge.specs.Product.{dots, dots_none, dots_mul, dots_mul_short}
use Rattle.base_places.specs.Row.{Ends}

-- b has n places: the terms before k + 1 - n are 0
pub dots_before : (a b : List ℕ) (k n : ℕ) → Ends b n → dots a b k (k + 1 - n) ≡ 0
unfolding dots
dots_before a b k n e = ⊎_elim (λ h. dots_none a b k n (k + 1 - n) e (omega arith)) (λ h. ap (dots a b k) (let w : k + 1 - n ≡ 0 = omega arith in w)) (le_or_lt n (k + 1))

module _ (q : ℕ) (pos : 0 < q) (a b : List ℕ) where
  -- a has m places: the terms up to min (k + 1) m are all
  pub dots_all : (k m i : ℕ) → Ends a m → k + 1 - (k + 1 - m) ≤ i → i ≤ k + 1 → dots a b k i % q ≡ get_or (mul (modulo q) a b) k 0
  dots_all k m i e h l =
      ⊎_elim (λ w. dots_mul_short q pos a b k i (λ j v. e j (omega arith)) (omega arith)) (λ w. ap (λ (j : ℕ). dots a b k j % q) (let v : i ≡ suc k = omega arith in v) ∙ dots_mul q pos a b k) (le_or_lt m i)

  -- from m + n - 1 on there is nothing
  pub mul_past : (m n : ℕ) → Ends a m → Ends b n → (i : ℕ) → m + n - 1 ≤ i → get_or (mul (modulo q) a b) i 0 ≡ 0
  mul_past m n e f i h =
      let x = trim_le (model q pos) a m e in
      let y = trim_le (model q pos) b n f in
      get_or-eq_default (mul (modulo q) a b) 0 (length_mul (model q pos) a b i (omega arith))
