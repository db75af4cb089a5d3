-- The difference of two arrays whose places from n on are 0: its record is held.
use Rattle.std.specs.Prelude.{ℕ, ◌<◌, ◌≤◌, ◌≡◌, List, length, get_or}
use Rattle.std.proofs.Common.{arith, sym, ap, ◌∙◌, subst}
use Rattle.spec_arithmetic.specs.Field.{FieldName, ops}
use Rattle.spec_arithmetic.specs.Polynomials.{trim, sub}
use Rattle.spec_bridge.specs.Trim.{trim_le}
use Rattle.spec_bridge.specs.Arithmetic.{at_sub, trim_sub, oks_sub}
use Rattle.spec_bridge.specs.Residues.{model}
use Rattle.base_places.specs.Places.{Places, Within, Top}
use Rattle.base_polynomial.specs.declared.Poly.{Poly}
use Rattle.base_polynomial.specs.Over.{Is, Result, result}
use Rattle.base_polynomial.specs.Linear.{is_result, sub_zeros}

module _ {f : FieldName} (pos : 0 < f.q) {x y : List ℕ} {n : ℕ} (x_within : Within f x n) (y_within : Within f y n) where
  pub difference_past : {z : List ℕ} → Places z (λ i. (ops f).sub (get_or x i 0) (get_or y i 0)) → (i : ℕ) → n ≤ i → get_or z i 0 ≡ 0
  difference_past p i l = p.at i ∙ sub_zeros f.q pos (x_within.past i l) (y_within.past i l)

  pub difference_is : {z : List ℕ} → Places z (λ i. (ops f).sub (get_or x i 0) (get_or y i 0)) → {k : ℕ} → Top z k → Is f (record { c = z; size = k }) (sub (ops f) x y)
  difference_is {z} p {k} t = is_result f.q pos z k (sub (ops f) x y) (trim_sub (model f.q pos) x y) (record { long = p.long; at = λ i. p.at i ∙ sym (at_sub (model f.q pos) x y i) }) t

  pub difference_result : n ≤ 129 → {z : Poly} → Is f z (sub (ops f) x y) → Result f z (sub (ops f) x y)
  difference_result short {z} is =
      let e : length (trim (ops f) (sub (ops f) x y)) ≡ length (sub (ops f) x y) = ap length (trim_sub (model f.q pos) x y) in
      let l : length (trim (ops f) (sub (ops f) x y)) ≤ n = trim_le (model f.q pos) (sub (ops f) x y) n (λ i w. at_sub (model f.q pos) x y i ∙ sub_zeros f.q pos (x_within.past i w) (y_within.past i w)) in
      result {a = z} is (omega arith) (trim_sub (model f.q pos) x y) (oks_sub (model f.q pos) x y)

pub is_path : {f : FieldName} {z : Poly} {l l' : List ℕ} → l ≡ l' → Is f z l → Is f z l'
is_path {f} {z} e h = subst (λ (l : List ℕ). Is f z l) e h
