-- Powers in a commutative ring: of a product, and with an even or an odd exponent by those of the square.
use Prim.Native.Nat.{ℕ, zero, suc, ◌+◌ as ◌+ₙ◌}
use Rattle.std.proofs.Common.{zero-add, add-suc, suc-add, ◌∙◌}
use Rattle.std.specs.Prelude.{◌≡◌}
use Rattle.std.proofs.Math.Path.{sym, ap}
use Rattle.math_ring.specs.Ring.{CRing, mswap4}
use Rattle.math_algebra.specs.Multiple.{power}

module _ {A : Type 0} (R : CRing A) where
  open R use {mul as ◌*◌, one as 𝟙}

  infixl 7 ◌*◌
  pub power_mul : (x y : A) (n : ℕ) → power R (x * y) n ≡ power R x n * power R y n
  unfolding power
  power_mul x y zero = sym (R.mul_one 𝟙)
  power_mul x y (suc n) = ap (λ t. (x * y) * t) (power_mul x y n) ∙ mswap4 R x y (power R x n) (power R y n)

  power_even : (x : A) (k : ℕ) → power R x (k +ₙ k) ≡ power R (x * x) k
  unfolding power
  power_even x zero = ap (power R x) (zero-add 0)
  power_even x (suc k) = ap (power R x) (suc-add k (suc k) ∙ ap suc (add-suc k k)) ∙ sym (R.mul_assoc x x (power R x (k +ₙ k))) ∙ ap (λ t. (x * x) * t) (power_even x k)

  pub power_odd : (x : A) (k : ℕ) → power R x (suc (k +ₙ k)) ≡ x * power R (x * x) k
  unfolding power
  power_odd x k = ap (λ t. x * t) (power_even x k)
