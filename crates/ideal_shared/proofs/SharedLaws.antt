-- The product of two operands whose Q_1 and Q_2 have a common factor: each result is held, by the lengths of the
-- product's lists, and together they are the definition's.
use Rattle.std.specs.Prelude.{ℕ, suc, ◌+◌, ◌≤◌, ◌<◌, ◌≡◌, List, length}
use Rattle.std.proofs.Common.{arith, sym, ap, ap₂, ◌∙◌}
use Rattle.spec_arithmetic.specs.Field.{FieldName, ops}
use Rattle.spec_arithmetic.specs.Polynomials.{trim, sub, mul, quo, rem}
use Rattle.spec_definitions.specs.Walk.{Ideal as Pair}
use Rattle.spec_definitions.specs.Products.{Product, product_of}
use Rattle.spec_bridge.specs.Trim.{length_trim}
use Rattle.spec_bridge.specs.Arithmetic.{trim_sub, oks_sub, trim_mul, oks_mul}
use Rattle.spec_bridge.specs.Lengths.{length_sub, length_mul}
use Rattle.spec_bridge.specs.Division.{trim_quo, oks_quo}
use Rattle.spec_bridge.specs.Bezout.{trim_gcd, oks_gcd, trim_bezout_v, oks_bezout_v}
use Rattle.spec_laws.specs.Admitted.{Admitted, D_most}
use Rattle.spec_laws.specs.Pairs.{cofactor_at}
use Rattle.spec_laws.specs.Product.{common_of, product_q, bezout_u, bezout_w, product_is, S_size}
use Rattle.spec_laws.specs.ProductSizes.{ideal_p_size, cofactor_length, common_length, W_length, U_length, Q_length, W_product_length}
use Rattle.base_polynomial.specs.declared.Poly.{Poly}
use Rattle.base_polynomial.specs.Over.{poly, Held, Is, Result, result}
use Rattle.base_polynomial.specs.Result.{result_quo, size_quo}
use Rattle.base_ideal.specs.declared.Ideal.{Ideal}
use Rattle.ideal_operand.specs.Operand.{held_pair, Operand, K, M, I, operand_q, operand_q_size, operand_ideal, operand_degree}
use Rattle.ideal_operand.specs.Product.{Multiplied}
use Rattle.ideal_operand.specs.Difference.{is_path}
use Rattle.ideal_shared.specs.Laws.{turned_bracket, product_of_quotients}
use Rattle.ideal_shared.proofs.Laws.{turned}

-- (D − P_1²)/Q_1
module _ {f : FieldName} {g : ℕ} {D : List ℕ} (h : Admitted f g D) {i : Ideal} (t : Operand f g D i) {c : Poly} (c_is : Is f c (cofactor_at (ops f) D (held_pair i))) where
  cofactor_most : length (cofactor_at (ops f) D (held_pair i)) ≤ suc (suc g + suc g)
  cofactor_most = cofactor_length (K h) (M h) (I h) (operand_ideal h t) (operand_degree h t) (D_most h)

  pub cofactor_result : Result f c (cofactor_at (ops f) D (held_pair i))
  cofactor_result = result {a = c} c_is (let e = cofactor_most in let w = h.genus_most in omega arith) (trim_quo (M h) _ _) (oks_quo (M h) _ _)

  pub cofactor_bound : c.size ≤ 65
  cofactor_bound = let e = cofactor_most in let z = c_is.size_is in let w = h.genus_most in omega arith

module _ {f : FieldName} {g : ℕ} {D : List ℕ} (h : Admitted f g D) {i i' : Ideal} (t : Operand f g D i) (t' : Operand f g D i') where
  abbrev x : Pair ℕ
  x = held_pair i

  abbrev y : Pair ℕ
  y = held_pair i'

  abbrev U : List ℕ
  U = bezout_u (ops f) x y

  abbrev W : List ℕ
  W = bezout_w (ops f) x y

  S_most : length (common_of (ops f) x y) ≤ suc g
  S_most = common_length (K h) (M h) (I h) (operand_ideal h t) (operand_ideal h t') (operand_degree h t) (operand_degree h t')

  -- ---- S, U and W
  module _ {s : Poly} (s_is : Is f s (common_of (ops f) x y)) where
    pub S_result : Result f s (common_of (ops f) x y)
    S_result = result {a = s} s_is (let e = S_most in let w = h.genus_most in omega arith) (trim_gcd (M h) (I h) _ _) (oks_gcd (M h) (I h) _ _)

    pub S_bounds : (0 < s.size) × (s.size ≤ suc g)
    S_bounds =
        let e = s_is.size_is in
        let z : length (trim (ops f) (common_of (ops f) x y)) ≡ length (common_of (ops f) x y) = ap length (trim_gcd (M h) (I h) _ _) in
        let w = S_size (K h) (M h) (I h) D (operand_ideal h t) (operand_ideal h t') in
        let m = S_most in
        (omega arith, omega arith)

    product_s : Is f s (product_of (ops f) D x y).s
    product_s = is_path {z = s} (ap (λ (r : Product ℕ). r.s) (sym (product_is (K h) (M h) (I h) D x y))) s_is

    -- Q_1/S
    module _ {a : Poly} (a_is : Is f a (quo (ops f) (poly i.q) (poly s))) where
      first_given : Result f a (quo (ops f) (poly i.q) (poly s))
      first_given = result_quo f.q _ _ (operand_q h t) _ _ S_result.held _ _ S_bounds.0 a_is

      pub first_held : Held f a
      first_held = first_given.held

      first_is : poly a ≡ quo (ops f) (poly i.q) (common_of (ops f) x y)
      first_is = first_given.is ∙ ap (quo (ops f) (poly i.q)) S_result.is

      pub first_bound : a.size ≤ suc g
      first_bound = let w = size_quo f.q _ _ (operand_q h t) _ _ S_result.held _ _ a_is in let e = operand_q_size h t in let v = S_bounds in omega arith

    -- Q
    module _ {q : Poly} (q_is : Is f q (mul (ops f) (quo (ops f) (poly i.q) (poly s)) (quo (ops f) (poly i'.q) (poly s)))) where
      Q_is : Is f q (product_q (ops f) x y)
      Q_is = is_path {z = q} (ap (λ (S : List ℕ). mul (ops f) (quo (ops f) (poly i.q) S) (quo (ops f) (poly i'.q) S)) S_result.is ∙ product_of_quotients (K h) (M h) (I h) D (operand_ideal h t) (operand_ideal h t')) q_is

      pub Q_result : Result f q (product_q (ops f) x y)
      Q_result = result {a = q} Q_is (let e = Q_length (K h) (M h) (I h) (operand_ideal h t) (operand_ideal h t') (operand_degree h t) (operand_degree h t') in let w = h.genus_most in omega arith) (trim_quo (M h) _ _) (oks_quo (M h) _ _)

      pub Q_positive : 0 < q.size
      Q_positive = let e = Q_length (K h) (M h) (I h) (operand_ideal h t) (operand_ideal h t') (operand_degree h t) (operand_degree h t') in let z = Q_is.size_is in omega arith

      definition_q : Is f q (product_of (ops f) D x y).ideal.q
      definition_q = is_path {z = q} (ap (λ (r : Product ℕ). r.ideal.q) (sym (product_is (K h) (M h) (I h) D x y))) Q_is

  module _ {u : Poly} (u_is : Is f u U) where
    U_most : length U ≤ g + g
    U_most = U_length (K h) (M h) (I h) (operand_ideal h t) (operand_ideal h t') (operand_degree h t) (operand_degree h t')

    pub U_result : Result f u U
    U_result = result {a = u} u_is (let e = U_most in let w = h.genus_most in omega arith) (trim_mul (M h) _ _) (oks_mul (M h) _ _)

    pub U_bound : u.size ≤ 65
    U_bound = let e = U_most in let z = u_is.size_is in let w = h.genus_most in omega arith

  module _ {w : Poly} (w_is : Is f w W) where
    W_most : length W ≤ suc g
    W_most = W_length (K h) (M h) (I h) (operand_ideal h t) (operand_ideal h t') (operand_degree h t) (operand_degree h t')

    pub W_result : Result f w W
    W_result = result {a = w} w_is (let e = W_most in let n = h.genus_most in omega arith) (trim_bezout_v (M h) (I h) _ _) (oks_bezout_v (M h) (I h) _ _)

    pub W_bound : w.size ≤ 65
    W_bound = let e = W_most in let z = w_is.size_is in let n = h.genus_most in omega arith

  -- ---- P
  module _ {u w : Poly} (u_is : Is f u U) (w_is : Is f w W)
      {b : Poly} (b_is : Is f b (sub (ops f) (mul (ops f) (poly u) (sub (ops f) (poly i.p) (poly i'.p))) (mul (ops f) (poly w) (cofactor_at (ops f) D x)))) where
    bracket_is : Is f b (turned_bracket (ops f) D x y U W)
    bracket_is = is_path {z = b} (ap₂ (sub (ops f)) (ap (λ (l : List ℕ). mul (ops f) l (sub (ops f) (poly i.p) (poly i'.p))) (U_result u_is).is) (ap (λ (l : List ℕ). mul (ops f) l (cofactor_at (ops f) D x)) (W_result w_is).is)) b_is

    bracket_most : length (turned_bracket (ops f) D x y U W) ≤ 3 + (g + g + g)
    bracket_most =
        let a = U_length (K h) (M h) (I h) (operand_ideal h t) (operand_ideal h t') (operand_degree h t) (operand_degree h t') in
        let a' = length_trim (M h) U in
        let e = length_sub (M h) (poly i.p) (poly i'.p) g (ideal_p_size (K h) (M h) (I h) (operand_ideal h t) (operand_degree h t)) (ideal_p_size (K h) (M h) (I h) (operand_ideal h t') (operand_degree h t')) in
        let e' = length_trim (M h) (sub (ops f) (poly i.p) (poly i'.p)) in
        let n = length_mul (M h) U (sub (ops f) (poly i.p) (poly i'.p)) (g + g + g) (omega arith) in
        let n' = length_trim (M h) (mul (ops f) U (sub (ops f) (poly i.p) (poly i'.p))) in
        let o = W_product_length (K h) (M h) (I h) (operand_ideal h t) (operand_ideal h t') (operand_degree h t) (operand_degree h t') (D_most h) in
        let o' = length_trim (M h) (mul (ops f) W (cofactor_at (ops f) D x)) in
        length_sub (M h) (mul (ops f) U (sub (ops f) (poly i.p) (poly i'.p))) (mul (ops f) W (cofactor_at (ops f) D x)) (3 + (g + g + g)) (omega arith) (omega arith)

    pub bracket_result : Result f b (turned_bracket (ops f) D x y U W)
    bracket_result = result {a = b} bracket_is (let m = bracket_most in let n = h.genus_most in omega arith) (trim_sub (M h) _ _) (oks_sub (M h) _ _)

    pub bracket_bound : b.size ≤ 96
    bracket_bound = let m = bracket_most in let z = bracket_is.size_is in let n = h.genus_most in omega arith

    pub multiplied : {s : Poly} (s_is : Is f s (common_of (ops f) x y)) {a : Poly} (a_is : Is f a (quo (ops f) (poly i.q) (poly s)))
        → {z : Ideal} (q_is : Is f z.q (mul (ops f) (quo (ops f) (poly i.q) (poly s)) (quo (ops f) (poly i'.q) (poly s))))
        → Is f z.p (rem (ops f) (sub (ops f) (poly i.p) (mul (ops f) (poly a) (poly b))) (poly z.q)) → Multiplied f D x y s z
    multiplied s_is a_is {z} q_is p_is = record {
      s_is = product_s s_is;
      q_is = definition_q s_is q_is;
      p_is = is_path {z = z.p} (ap₂ (rem (ops f)) (ap (sub (ops f) (poly i.p)) (ap₂ (mul (ops f)) (first_is s_is a_is) bracket_result.is)) (Q_result s_is q_is).is ∙ turned (K h) (M h) (I h) D (operand_ideal h t) (operand_ideal h t') U W ∙ ap (λ (r : Product ℕ). r.ideal.p) (sym (product_is (K h) (M h) (I h) D x y))) p_is;
    }
