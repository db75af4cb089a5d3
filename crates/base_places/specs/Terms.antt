-- A sum of products that serves for a product's coefficient: it is not reduced, and each of its terms is at
-- most q².
use Rattle.std.specs.Prelude.{ℕ, ◌+◌, ◌*◌, ◌%◌, ◌<◌, ◌≤◌, ◌≡◌, List, get_or}
use Rattle.std.proofs.Common.{mul-le-mul, mul-le-mul_right, arith}
use Rattle.spec_arithmetic.specs.Field.{FieldName, prime, ops}
use Rattle.spec_arithmetic.specs.Polynomials.{mul}
use Rattle.spec_bridge.specs.Product.{dots, dots_bound}
use Rattle.base_places.specs.Places.{Within}

pub record Terms (f : FieldName) (x y : List ℕ) (k r : ℕ) : Type 0 where
  pub residue : r % f.q ≡ get_or (mul (ops f) x y) k 0
  pub small : r ≤ (k + 1) * (f.q * f.q)

pub dots_small : {q m n : ℕ} {x y : List ℕ} → Within (prime q) x m → Within (prime q) y n → (k i : ℕ) → i ≤ k + 1 → dots x y k i ≤ (k + 1) * (q * q)
dots_small {q} {m} {n} {x} {y} xw yw k i h =
    let d : dots x y k i ≤ i * (q * q) = dots_bound x y q (λ j. let w = xw.reduced j in omega arith) (λ j. let w = yw.reduced j in omega arith) k i in
    let l : i * (q * q) ≤ (k + 1) * (q * q) = mul-le-mul_right (q * q) h in
    omega arith

-- 129 terms are below 2³²
pub terms_fit : (q k : ℕ) → q < 4096 → k < 129 → (k + 1) * (q * q) ≤ 129 * 16769025
terms_fit q k h l = mul-le-mul {n₂ = 129} {m₂ = 16769025} (omega arith) (mul-le-mul {n₂ = 4095} {m₂ = 4095} (omega arith) (omega arith))
