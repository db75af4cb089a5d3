-- The proofs of specs/Bounds.
use Rattle.std.specs.Prelude.{ℕ, zero, suc, ◌+◌, ◌-◌, ◌*◌, ◌^◌, ◌≤◌, ◌<◌, ◌≡◌, refl}
use Rattle.std.proofs.Math.Nat.{pow-zero, pow-le-pow_left, pow-le-pow_right, one-le-pow}
use Rattle.std.proofs.Common.{pow-suc, mul-le-mul, mul-pos, le_trans, lt_of_le_of_lt, mul_assoc, mul_right_comm, mul-one, arith, sym, ap, ◌∙◌, subst, ltb-true}
use Rattle.spec_estimate.specs.Bounds.{Fits}

-- ---- the proof
pub pow_add : (x m n : ℕ) → x ^ (m + n) ≡ x ^ m * x ^ n
pow_add x m zero = ap (λ (k : ℕ). x ^ k) (let e : m + 0 ≡ m = omega arith in e) ∙ sym (ap (λ (k : ℕ). x ^ m * k) (pow-zero x) ∙ mul-one (x ^ m))
pow_add x m (suc n) = ap (λ (k : ℕ). x ^ k) (let e : m + suc n ≡ suc (m + n) = omega arith in e) ∙ pow-suc x (m + n) ∙ ap (λ (k : ℕ). k * x) (pow_add x m n) ∙ mul_assoc (x ^ m) (x ^ n) x ∙ ap (λ (k : ℕ). x ^ m * k) (sym (pow-suc x n))

-- x^e is at most y^f
pow_most : (x y e f : ℕ) → x ≤ y → 0 < y → e ≤ f → x ^ e ≤ y ^ f
pow_most x y e f h p k = le_trans (pow-le-pow_left h e) (pow-le-pow_right p k)

module _ (q g a t : ℕ) (low : 3 ≤ q) (high : q ≤ 13) (degree : g + 1 ≤ 4) (both : a + t ≤ q) where
  numerator_most : q ^ (g + 1 + a + t) ≤ 13 ^ 17
  numerator_most = pow_most q 13 (g + 1 + a + t) 17 high (omega arith) (omega arith)

  -- (q − 1)^(a+1)·(q + 1)^t is at most 14^a·12·14^t
  denominator_most : (q - 1) ^ (a + 1) * (q + 1) ^ t ≤ 14 ^ 13 * 12
  denominator_most = le_trans (mul-le-mul first (pow_most (q + 1) 14 t t (omega arith) (omega arith) (omega arith))) (subst (λ (k : ℕ). k ≤ 14 ^ 13 * 12) order last)
    where
      twelve : 12 ≤ 12
      twelve = omega arith

      first : (q - 1) ^ (a + 1) ≤ 14 ^ a * 12
      first = le_trans (pow_most (q - 1) 12 (a + 1) (suc a) (omega arith) (omega arith) (omega arith)) (subst (λ (k : ℕ). k ≤ 14 ^ a * 12) (sym (pow-suc 12 a)) (mul-le-mul (pow_most 12 14 a a (omega arith) (omega arith) (omega arith)) twelve))

      last : 14 ^ (a + t) * 12 ≤ 14 ^ 13 * 12
      last = mul-le-mul (pow_most 14 14 (a + t) 13 (omega arith) (omega arith) (omega arith)) twelve

      order : 14 ^ (a + t) * 12 ≡ 14 ^ a * 12 * 14 ^ t
      order = ap (λ (k : ℕ). k * 12) (pow_add 14 a t) ∙ mul_right_comm (14 ^ a) (14 ^ t) 12

  denominator_some : 0 < (q - 1) ^ (a + 1) * (q + 1) ^ t
  denominator_some = mul-pos (one-le-pow (a + 1) (q - 1) (omega arith)) (one-le-pow t (q + 1) (omega arith))

  pub bounds : Fits (q ^ (g + 1 + a + t)) ((q - 1) ^ (a + 1) * (q + 1) ^ t)
  bounds = record {
    some = denominator_some;
    numerator = lt_of_le_of_lt numerator_most (ltb-true (13 ^ 17) (2 ^ 63) refl);
    denominator = lt_of_le_of_lt denominator_most (ltb-true (14 ^ 13 * 12) (2 ^ 54) refl);
    sum =
        let n = numerator_most in
        let d = denominator_most in
        let s : 2 * q ^ (g + 1 + a + t) + (q - 1) ^ (a + 1) * (q + 1) ^ t ≤ 2 * 13 ^ 17 + 14 ^ 13 * 12 = omega arith in
        lt_of_le_of_lt s (ltb-true (2 * 13 ^ 17 + 14 ^ 13 * 12) (2 ^ 64) refl);
  }
