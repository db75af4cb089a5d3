-- S with U and W: two greatest common divisors with factors, the second of the first's and of P_1 + P_2.
use Rattle.std.specs.Prelude.{ℕ, ◌+◌, ◌≤◌, ◌<◌, List}
use Rattle.std.proofs.Common.{arith, ap, ap₂, ◌∙◌}
use Rattle.spec_arithmetic.specs.Field.{FieldName, ops}
use Rattle.spec_arithmetic.specs.Polynomials.{add, mul, gcd, bezout}
use Rattle.spec_bridge.specs.Gcd.{bezout_gcd}
use Rattle.spec_bridge.specs.Prime.{Prime}
use Rattle.spec_bridge.specs.Residues.{model, inverts}
use Rattle.spec_laws.specs.Admitted.{Admitted}
use Rattle.spec_laws.specs.Product.{common_of, bezout_u, bezout_w}
use Rattle.base_polynomial.specs.declared.Poly.{Poly}
use Rattle.base_polynomial.specs.Over.{poly, Held, Is, held_positive, Result, result_add, result_u, result_factor_gcd}
use Rattle.base_ideal.specs.declared.Ideal.{Ideal}
use Rattle.ideal_operand.specs.Operand.{held_pair, Operand, operand_q, operand_q_size}
use Rattle.ideal_operand.specs.Difference.{is_path}
use Rattle.ideal_shared.proofs.Sizes.{size_add, size_u}

-- ---- from a polynomial h, and t = P_1 + P_2
module _ {f : FieldName} (prime : Prime f.q) {h p1 p2 : Poly} (held_h : Held f h) (held_p1 : Held f p1) (held_p2 : Held f p2) {t : Poly} (t_is : Is f t (add (ops f) (poly p1) (poly p2))) where
  abbrev T : List ℕ
  T = add (ops f) (poly p1) (poly p2)

  pos : 0 < f.q
  pos = held_positive {a = h} held_h

  pub sum_result : Result f t T
  sum_result = result_add {a = p1} {b = p2} {c = t} held_p1 held_p2 t_is

  pub S_is : {s : Poly} → Is f s (bezout (ops f) (poly h) (poly t)).gcd → Is f s (gcd (ops f) (poly h) T)
  S_is {s} e = is_path {z = s} (bezout_gcd (model f.q pos) (inverts f.q pos prime) (poly h) (poly t) ∙ ap (gcd (ops f) (poly h)) sum_result.is) e

  pub W_is : {w : Poly} → Is f w (bezout (ops f) (poly h) (poly t)).v → Is f w (bezout (ops f) (poly h) T).v
  W_is {w} e = is_path {z = w} (ap (λ (l : List ℕ). (bezout (ops f) (poly h) l).v) sum_result.is) e

  -- the factor x of U, and the product u with the other one, y
  module _ {x : Poly} (x_is : Is f x (bezout (ops f) (poly h) (poly t)).u) where
    pub second_result : Result f x (bezout (ops f) (poly h) (poly t)).u
    second_result = result_u {a = h} {b = t} {c = x} held_h sum_result.held prime x_is

    pub U_fits : (y : Poly) → y.size ≤ 64 → p1.size ≤ 64 → p2.size ≤ 64 → x.size + y.size ≤ 130
    U_fits y l l' l'' =
        let e = size_add p1 p2 held_p1 held_p2 t 64 t_is l' l'' in
        let u = size_u h t held_h sum_result.held x 64 prime x_is (omega arith) e in
        omega arith

    pub U_is : (y : Poly) {u : Poly} → Is f u (mul (ops f) (poly x) (poly y)) → Is f u (mul (ops f) (bezout (ops f) (poly h) T).u (poly y))
    U_is y {u} e = is_path {z = u} (ap (λ (v : List ℕ). mul (ops f) v (poly y)) (second_result.is ∙ ap (λ (v : List ℕ). (bezout (ops f) (poly h) v).u) sum_result.is)) e

-- ---- h is gcd(Q_1, Q_2) of two operands, and y its first factor
module _ {f : FieldName} {g : ℕ} {D : List ℕ} (admitted : Admitted f g D) {a b : Ideal} (t : Operand f g D a) (t' : Operand f g D b) {h : Poly} (h_is : Is f h (bezout (ops f) (poly a.q) (poly b.q)).gcd) {y : Poly} (y_is : Is f y (bezout (ops f) (poly a.q) (poly b.q)).u) where
  pub gcd_result : Result f h (gcd (ops f) (poly a.q) (poly b.q))
  gcd_result = result_factor_gcd {a = a.q} {b = b.q} {c = h} (operand_q admitted t) (operand_q admitted t') admitted.prime h_is

  pub first_result : Result f y (bezout (ops f) (poly a.q) (poly b.q)).u
  first_result = result_u {a = a.q} {b = b.q} {c = y} (operand_q admitted t) (operand_q admitted t') admitted.prime y_is

  pub first_size : y.size ≤ 64
  first_size =
      let e = operand_q_size admitted t' in
      let n = admitted.genus_most in
      size_u a.q b.q (operand_q admitted t) (operand_q admitted t') y 64 admitted.prime y_is (omega arith) (omega arith)

  -- S, U and W are the definition's
  abbrev sum : List ℕ
  sum = add (ops f) (poly a.p) (poly b.p)

  pub common_is : {s : Poly} → Is f s (gcd (ops f) (poly h) sum) → Is f s (common_of (ops f) (held_pair a) (held_pair b))
  common_is {s} e = is_path {z = s} (ap (λ (G : List ℕ). gcd (ops f) G sum) gcd_result.is) e

  pub bezout_u_is : {u : Poly} → Is f u (mul (ops f) (bezout (ops f) (poly h) sum).u (poly y)) → Is f u (bezout_u (ops f) (held_pair a) (held_pair b))
  bezout_u_is {u} e = is_path {z = u} (ap₂ (λ (G Y : List ℕ). mul (ops f) (bezout (ops f) G sum).u Y) gcd_result.is first_result.is) e

  pub bezout_w_is : {w : Poly} → Is f w (bezout (ops f) (poly h) sum).v → Is f w (bezout_w (ops f) (held_pair a) (held_pair b))
  bezout_w_is {w} e = is_path {z = w} (ap (λ (G : List ℕ). (bezout (ops f) G sum).v) gcd_result.is) e
