-- What a caller keeps of v − w·u, x − y and a modulo b: it is held, its polynomial is the definition's, and how long
-- it is.
use Rattle.std.specs.Prelude.{ℕ, suc, ◌+◌, ◌≤◌, ◌<◌, List, length}
use Rattle.std.proofs.Common.{arith}
use Rattle.spec_arithmetic.specs.Field.{FieldName, ops}
use Rattle.spec_arithmetic.specs.Polynomials.{sub, mul, rem}
use Rattle.spec_bridge.specs.Trim.{length_trim}
use Rattle.spec_bridge.specs.Arithmetic.{trim_sub, oks_sub}
use Rattle.spec_bridge.specs.Lengths.{length_sub, length_mul}
use Rattle.spec_bridge.specs.Division.{rem_less, trim_rem, oks_rem}
use Rattle.spec_bridge.specs.Prime.{Prime}
use Rattle.spec_bridge.specs.Residues.{model, inverts}
use Rattle.base_polynomial.specs.declared.Poly.{Poly}
pub use Rattle.base_ideal.specs.Difference.{is_path}
use Rattle.base_polynomial.specs.Over.{poly, Held, Is, held_positive, Result, result, held_size}

module _ {f : FieldName} (v w u : Poly) (held_v : Held f v) (held_w : Held f w) (held_u : Held f u) where
  abbrev difference : List ℕ
  difference = sub (ops f) (poly v) (mul (ops f) (poly w) (poly u))

  pos : 0 < f.q
  pos = held_positive {a = v} held_v

  length_difference : (n : ℕ) → v.size ≤ n → w.size + u.size ≤ suc n → length difference ≤ n
  length_difference n h h' =
      let s = held_size {a = v} held_v in
      let t = held_size {a = w} held_w in
      let r = held_size {a = u} held_u in
      let e = length_mul (model f.q pos) (poly w) (poly u) n (omega arith) in
      let d = length_trim (model f.q pos) (mul (ops f) (poly w) (poly u)) in
      length_sub (model f.q pos) (poly v) (mul (ops f) (poly w) (poly u)) n (omega arith) (omega arith)

  pub result_difference : (z : Poly) → Is f z difference → w.size + u.size ≤ 130 → Result f z difference
  result_difference z is h =
      let s = held_v.short in
      result {a = z} is (length_difference 129 (omega arith) (omega arith)) (trim_sub (model f.q pos) _ _) (oks_sub (model f.q pos) _ _)

-- x − y
pub size_subtract : {f : FieldName} (x y : Poly) → Held f x → Held f y → (z : Poly) → Is f z (sub (ops f) (poly x) (poly y)) → (k : ℕ) → x.size ≤ k → y.size ≤ k → z.size ≤ k
size_subtract {f} x y held_x held_y z is k h h' =
    let a = held_size {a = x} held_x in
    let b = held_size {a = y} held_y in
    let e = is.size_is in
    let w = length_sub (model f.q (held_positive {a = x} held_x)) (poly x) (poly y) k (omega arith) (omega arith) in
    omega arith

-- a modulo b, which is not 0
module _ {f : FieldName} (p : Prime f.q) (a : List ℕ) (b : Poly) (held_b : Held f b) (some : 0 < b.size) (z : Poly) (is : Is f z (rem (ops f) a (poly b))) where
  positive : 0 < f.q
  positive = held_positive {a = b} held_b

  pub remainder_less : z.size < b.size
  remainder_less =
      let s = held_size {a = b} held_b in
      let r = rem_less (model f.q positive) (inverts f.q positive p) a (poly b) (omega arith) in
      let e = is.size_is in
      omega arith

  pub remainder_result : Result f z (rem (ops f) a (poly b))
  remainder_result = result {a = z} is (let r = remainder_less in let e = is.size_is in let s = held_b.short in omega arith) (trim_rem (model f.q positive) a (poly b)) (oks_rem (model f.q positive) a (poly b))
