-- The binary digits of a number: how many there are of one up to 2^40, and the quotients by powers of 2, each half of the
-- one before.
use Rattle.std.specs.Prelude.{ℕ, ◌+◌, ◌*◌, ◌-◌, ◌/◌, ◌^◌, ◌≤◌, ◌<◌, ◌≡◌}
use Rattle.std.proofs.Common.{arith, sym, ap, ◌∙◌, ⊎_elim, pow_mono, shr-shr}
use Rattle.std.proofs.Math.Nat.{div-eq_of_lt}
use Rattle.std.proofs.lemmas.Nat.{leading_length}
use Rattle.std.specs.Int.Count.{count_leading_zeros}
use Rattle.math_ring.specs.Order.{le_or_lt}
use Rattle.spec_definitions.specs.Products.{farthest}

-- 64 places, less the zeros before the first digit
pub digits_most : (y : ℕ) → y ≤ farthest → (y / 2 ^ (64 - count_leading_zeros 64 y) ≡ 0) × (64 - count_leading_zeros 64 y ≤ 41)
digits_most y l = go (leading_length 64 y (omega arith))
  where
    go : (m : ℕ) × (count_leading_zeros 64 y + m ≡ 64) × (y < 2 ^ m) × (2 ^ m ≤ 2 * y + 1) → (y / 2 ^ (64 - count_leading_zeros 64 y) ≡ 0) × (64 - count_leading_zeros 64 y ≤ 41)
    go (m, e, h, w) =
        let k : 64 - count_leading_zeros 64 y ≡ m = omega arith in
        (ap (λ (i : ℕ). y / 2 ^ i) k ∙ div-eq_of_lt h, ⊎_elim (λ a. omega arith) (λ a. absurd (let v : 2 ^ 42 ≤ 2 ^ m = pow_mono a in omega arith)) (le_or_lt m 41))

-- one digit more
pub quotient_half : (y k : ℕ) → 0 < k → y / 2 ^ k ≡ y / 2 ^ (k - 1) / 2
quotient_half y k some = ap (λ (j : ℕ). y / 2 ^ j) (let e : k ≡ k - 1 + 1 = omega arith in e) ∙ sym (shr-shr y (k - 1) 1)
