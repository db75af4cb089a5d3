-- The product of two operands whose Q_1 and Q_2 have no common factor: Bezout's U is held and short, and what is
-- made from it is the definition's product.
use Rattle.std.specs.Prelude.{ℕ, ◌≤◌, ◌≡◌, List, length}
use Rattle.std.proofs.Common.{arith, sym, ap, ◌∙◌}
use Rattle.spec_arithmetic.specs.Field.{FieldName, ops}
use Rattle.spec_arithmetic.specs.Polynomials.{sub, mul, rem, gcd, bezout}
use Rattle.spec_definitions.specs.Walk.{Ideal as Pair}
use Rattle.spec_definitions.specs.Products.{Product, product_of}
use Rattle.spec_bridge.specs.Gcd.{bezout_gcd}
use Rattle.spec_bridge.specs.Bezout.{trim_bezout_u, oks_bezout_u}
use Rattle.spec_laws.specs.Admitted.{Admitted}
use Rattle.spec_laws.specs.Product.{product_is}
use Rattle.spec_laws.specs.ProductSizes.{first_u_length}
use Rattle.base_polynomial.specs.declared.Poly.{Poly}
use Rattle.base_polynomial.specs.Over.{poly, Is, Result, result}
use Rattle.base_ideal.specs.declared.Ideal.{Ideal}
use Rattle.ideal_operand.specs.Operand.{held_pair, Operand, K, M, I, operand_ideal, operand_degree}
use Rattle.ideal_operand.specs.Product.{Multiplied}
use Rattle.ideal_operand.specs.Difference.{is_path}
use Rattle.ideal_product.specs.Coprime.{coprime_p, coprime_S, coprime_Q, coprime_P}

module _ {f : FieldName} {g : ℕ} {D : List ℕ} (h : Admitted f g D) {i i' : Ideal} (t : Operand f g D i) (t' : Operand f g D i') where
  abbrev x : Pair ℕ
  x = held_pair i

  abbrev y : Pair ℕ
  y = held_pair i'

  -- U
  module _ {u : Poly} (u_is : Is f u (bezout (ops f) (poly i.q) (poly i'.q)).u) where
    u_length : length (bezout (ops f) (poly i.q) (poly i'.q)).u ≤ g
    u_length = first_u_length (K h) (M h) (I h) (operand_ideal h t) (operand_ideal h t') (operand_degree h t) (operand_degree h t')

    pub u_result : Result f u (bezout (ops f) (poly i.q) (poly i'.q)).u
    u_result = result {a = u} u_is (let l = u_length in let w = h.genus_most in omega arith) (trim_bezout_u (M h) (I h) _ _) (oks_bezout_u (M h) (I h) _ _)

    pub u_bound : u.size ≤ 65
    u_bound = let e = u_is.size_is in let l = u_length in let w = h.genus_most in omega arith

    -- S, Q and P
    module _ {s : Poly} (s_is : Is f s (bezout (ops f) (poly i.q) (poly i'.q)).gcd) (one : s.size ≡ 1) where
      gcd_is : (bezout (ops f) (poly i.q) (poly i'.q)).gcd ≡ gcd (ops f) (poly i.q) (poly i'.q)
      gcd_is = bezout_gcd (M h) (I h) (poly i.q) (poly i'.q)

      gcd_one : length (gcd (ops f) (poly i.q) (poly i'.q)) ≡ 1
      gcd_one = ap length (sym gcd_is) ∙ sym s_is.size_is ∙ one

      s_path : gcd (ops f) (poly i.q) (poly i'.q) ≡ (product_of (ops f) D x y).s
      s_path = sym (ap (λ (r : Product ℕ). r.s) (product_is (K h) (M h) (I h) D x y) ∙ coprime_S (K h) (M h) (I h) D (operand_ideal h t) (operand_ideal h t') gcd_one)

      q_path : mul (ops f) (poly i.q) (poly i'.q) ≡ (product_of (ops f) D x y).ideal.q
      q_path = sym (ap (λ (r : Product ℕ). r.ideal.q) (product_is (K h) (M h) (I h) D x y) ∙ coprime_Q (K h) (M h) (I h) D (operand_ideal h t) (operand_ideal h t') gcd_one)

      p_path : coprime_p (ops f) x y ≡ (product_of (ops f) D x y).ideal.p
      p_path = sym (ap (λ (r : Product ℕ). r.ideal.p) (product_is (K h) (M h) (I h) D x y) ∙ coprime_P (K h) (M h) (I h) D (operand_ideal h t) (operand_ideal h t') gcd_one)

      pub coprime_multiplied : {z : Ideal} → Is f z.q (mul (ops f) (poly i.q) (poly i'.q))
          → Is f z.p (sub (ops f) (poly i.p) (mul (ops f) (poly i.q) (rem (ops f) (mul (ops f) (poly u) (sub (ops f) (poly i.p) (poly i'.p))) (poly i'.q))))
          → Multiplied f D x y s z
      coprime_multiplied {z} q_is p_is = record {
        s_is = is_path {z = s} (gcd_is ∙ s_path) s_is;
        q_is = is_path {z = z.q} q_path q_is;
        p_is = is_path {z = z.p} (ap (λ (v : List ℕ). sub (ops f) (poly i.p) (mul (ops f) (poly i.q) (rem (ops f) (mul (ops f) v (sub (ops f) (poly i.p) (poly i'.p))) (poly i'.q)))) u_result.is ∙ p_path) p_is;
      }
