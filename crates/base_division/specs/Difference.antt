-- The difference v − w·u: a coefficient of it where w has two places, and the record that its places make.
use Rattle.std.specs.Prelude.{ℕ, ◌+◌, ◌*◌, ◌-◌, ◌%◌, ◌<◌, ◌≤◌, ◌≡◌, List, get_or, take}
use Rattle.std.proofs.Common.{mod-lt, add-mul, arith, sym, ap, ap₂, ◌∙◌}
use Rattle.std.proofs.Math.Path.{fun_ext}
use Rattle.math_ring.specs.Residues.{to, add_f, neg_f}
use Rattle.spec_arithmetic.specs.Field.{modulo, prime}
use Rattle.spec_arithmetic.specs.Polynomials.{sub, mul}
use Rattle.spec_bridge.specs.Arithmetic.{at_sub, trim_sub, mul_cong}
use Rattle.spec_bridge.specs.Residues.{model, to_mod}
use Rattle.spec_bridge.specs.Product.{shifted, rows_mul}
use Rattle.base_places.specs.Dots.{mul_past}
use Rattle.base_places.specs.Zeros.{sub_zeros}
use Rattle.base_places.specs.Places.{Places, Within, Top}
use Rattle.base_places.specs.Record.{Held, Is}
use Rattle.base_places.specs.Row.{Ends, at_take}
use Rattle.base_places.specs.TwoRows.{two_rows, complement, to_differ}
use Rattle.base_polynomial.specs.Linear.{is_result, held_within}
use Rattle.base_division.specs.Passed.{Passed, passed_all}

-- a held record fits
pub held_fits : {q : ℕ} {c : List ℕ} {size : ℕ} → Held (prime q) c size → Within (prime q) c size × (size ≤ 129)
held_fits h = (held_within _ _ _ _ h (omega arith), h.short)

module _ (q : ℕ) (pos : 0 < q) where
  -- t is v − p and a multiple of q
  less : (t p v c : ℕ) → t + p ≡ v + c * q → t % q ≡ (modulo q).sub v (p % q)
  less t p v c e = (model q pos).inj _ _ (mod-lt t pos) (mod-lt _ pos) (to_mod q pos t ∙ to_differ q pos t p v c e ∙ sym ((model q pos).φ_sub v (p % q) ∙ ap (λ z. add_f q pos (to q pos v) (neg_f q pos z)) (to_mod q pos p)))

  pub two_at : (w u : List ℕ) → Ends w 2 → (v k y : ℕ) → get_or w 0 0 ≤ q → get_or w 1 0 ≤ q → y ≡ shifted u 1 k
      → (v + ((q - get_or w 0 0) * get_or u k 0 + (q - get_or w 1 0) * y)) % q ≡ (modulo q).sub v (get_or (mul (modulo q) w u) k 0)
  two_at w u two v k y h0 h1 e =
      let x : ℕ = get_or u k 0 in
      let w0 : ℕ = get_or w 0 0 in
      let w1 : ℕ = get_or w 1 0 in
      less _ (w0 * x + w1 * y) v (x + y) (let a = complement q w0 x h0 in let b = complement q w1 y h1 in let c : (x + y) * q ≡ x * q + y * q = add-mul x y q in omega arith)
      ∙ ap ((modulo q).sub v) (ap (λ n. n % q) (ap (λ z. w0 * x + w1 * z) e ∙ sym (two_rows w u k)) ∙ rows_mul q pos w u 2 k two)

module _ (q : ℕ) (pos : 0 < q) {v w u : List ℕ} {size l k : ℕ} (v_within : Within (prime q) v size) (w_within : Within (prime q) w l) (u_within : Within (prime q) u k) where
  -- past the places of all three there is nothing
  pub difference_past : (i : ℕ) → size ≤ i → l + k ≤ i + 1 → (modulo q).sub (get_or v i 0) (get_or (mul (modulo q) w u) i 0) ≡ 0
  difference_past i h e = sub_zeros q pos (v_within.past i h) (mul_past q pos w u l k w_within.past u_within.past i (omega arith))

  -- so a difference in place is done after the places of v and of the product
  pub difference_of_passed : (c : List ℕ) (n : ℕ) → size ≤ n → l + k ≤ n + 1 → Passed v c (λ i. (modulo q).sub (get_or v i 0) (get_or (mul (modulo q) w u) i 0)) n
      → Places c (λ i. (modulo q).sub (get_or v i 0) (get_or (mul (modulo q) w u) i 0))
  difference_of_passed c n h e p = passed_all v _ c n p (λ i s. v_within.past i (omega arith) ∙ sym (difference_past i (omega arith) (omega arith)))

  mul_same : mul (modulo q) (take l w) (take k u) ≡ mul (modulo q) w u
  mul_same = mul_cong (model q pos) _ _ _ _ (fun_ext (λ i. ap (model q pos).φ (at_take w l w_within.past i))) (fun_ext (λ i. ap (model q pos).φ (at_take u k u_within.past i)))

  pub is_difference : (c : List ℕ) (r : ℕ) → Places c (λ i. (modulo q).sub (get_or v i 0) (get_or (mul (modulo q) w u) i 0)) → Top c r → Is (prime q) c r (sub (modulo q) (take size v) (mul (modulo q) (take l w) (take k u)))
  is_difference c r p t =
      is_result q pos c r _ (trim_sub (model q pos) _ _)
      (record { long = p.long; at = λ i. p.at i ∙ sym (at_sub (model q pos) (take size v) (mul (modulo q) (take l w) (take k u)) i ∙ ap₂ (modulo q).sub (at_take v size v_within.past i) (ap (λ (x : List ℕ). get_or x i 0) mul_same)) }) t
