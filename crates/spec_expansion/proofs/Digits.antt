-- The proofs of specs/Digits.
use Prim.Native.Nat.{ℕ, zero, suc, ◌+◌, ◌*◌, ◌^◌, ◌/◌, ◌%◌, ◌≤◌, ◌<◌}
use Rattle.std.proofs.Common.{mod-eq_of_lt, sym, ap, ◌∙◌}
use Rattle.std.proofs.Math.Nat.{div-eq_of_lt, add-mul-div_left, add-mul-mod_self_left, mul-le-mul_left, mul-suc, mul-zero, pow-succ', one-le-pow}
use native.Mathlib.Omega.{arith}
use Rattle.std.specs.Prelude.{◌≡◌}
use Rattle.std.proofs.Math.Path.{refl}
use mathlib.Core.List.{[], ◌∷◌}
use Rattle.spec_expansion.specs.Digits.{number, NumberBelow, NumberTells, SumTells}
use Rattle.spec_expansion.specs.Digits as defs

-- ---- the proof
pub sum_tells : SumTells
sum_tells q x y a b l k e = (sym (mod-eq_of_lt l) ∙ sym (add-mul-mod_self_left x q a) ∙ ap (λ (n : ℕ). n % q) e ∙ add-mul-mod_self_left y q b ∙ mod-eq_of_lt k, let z : 0 < q = omega arith in let u = add-mul-div_left x a z in let v = add-mul-div_left y b z in let r = div-eq_of_lt l in let s = div-eq_of_lt k in let t : (x + q * a) / q ≡ (y + q * b) / q = ap (λ (n : ℕ). n / q) e in omega arith)

module _ (q : ℕ) where
  pub number_below : NumberBelow q
  unfolding number
  number_below n [] h k = let a = one-le-pow n q (h 0) in omega arith
  number_below zero (x ∷ l) h k = absurd (omega arith)
  number_below (suc n) (x ∷ l) h k =
      let a = number_below n l (λ i. h (suc i)) (omega arith) in
      let b = h 0 in
      let c : q * suc (number q l) ≤ q * q ^ n = mul-le-mul_left q a in
      let e : q * suc (number q l) ≡ q * number q l + q = mul-suc q (number q l) in
      let f = pow-succ' q n in
      omega arith

  pub number_tells : NumberTells q
  unfolding number
  number_tells [] [] h k e i = refl
  number_tells [] (y ∷ m) h k e zero = (sum_tells q 0 y 0 (number q m) (h 0) (k 0) (let z = mul-zero q in omega arith)).0
  number_tells [] (y ∷ m) h k e (suc i) = number_tells [] m h (λ j. k (suc j)) (sum_tells q 0 y 0 (number q m) (h 0) (k 0) (let z = mul-zero q in omega arith)).1 i
  number_tells (x ∷ l) [] h k e zero = (sum_tells q x 0 (number q l) 0 (h 0) (k 0) (let z = mul-zero q in omega arith)).0
  number_tells (x ∷ l) [] h k e (suc i) = number_tells l [] (λ j. h (suc j)) k (sum_tells q x 0 (number q l) 0 (h 0) (k 0) (let z = mul-zero q in omega arith)).1 i
  number_tells (x ∷ l) (y ∷ m) h k e zero = (sum_tells q x y (number q l) (number q m) (h 0) (k 0) e).0
  number_tells (x ∷ l) (y ∷ m) h k e (suc i) = number_tells l m (λ j. h (suc j)) (λ j. k (suc j)) (sum_tells q x y (number q l) (number q m) (h 0) (k 0) e).1 i
