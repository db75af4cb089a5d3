-- The giant step: the product is where the reduction starts, and the reduced pair, f and the distance are the
-- definition's.
use Rattle.std.specs.Prelude.{ℕ, suc, ◌+◌, ◌-◌, ◌≤◌, ◌<◌, ◌≡◌, ℤ, ◌+ℤ◌, ◌-ℤ◌}
use Rattle.std.proofs.Common.{arith, ap₂, ◌∙◌, subst}
use Rattle.std.proofs.Math.Path.{sym, ap}
use mathlib.Core.List.{List}
use Rattle.std.proofs.Math.IntN.{pos, neg_ℤ, +ℤ_idl}
use Rattle.std.proofs.Math.ListN.{length}
use Rattle.spec_arithmetic.specs.Field.{FieldName, ops}
use Rattle.spec_arithmetic.specs.Polynomials.{trim, size, deg}
use Rattle.spec_definitions.specs.Ticket.{genus}
use Rattle.spec_definitions.specs.Walk.{Ideal as Pair, steps}
use Rattle.spec_definitions.specs.Answers.{root_of}
use Rattle.spec_definitions.specs.Listing.{ideal_of}
use Rattle.spec_definitions.specs.Products.{Product, product_of, turns_of, degree_sum, shift_of, giant_done}
use Rattle.spec_bridge.specs.Division.{trim_quo, oks_quo, trim_rem, oks_rem}
use Rattle.spec_bridge.specs.Bezout.{trim_gcd}
use Rattle.spec_laws.specs.Admitted.{Admitted, surd_of}
use Rattle.spec_laws.specs.Pairs.{IsIdeal}
use Rattle.spec_laws.specs.Product.{common_of, product_q, product_p, bezout_u, bezout_w, product_is, S_size}
use Rattle.spec_laws.specs.ProductSizes.{common_length, Q_length, P_length}
use Rattle.spec_laws.specs.Shift.{product_of_ideal, sum_minus}
use Rattle.base_polynomial.specs.declared.Poly.{Poly}
use Rattle.base_polynomial.specs.Over.{Is, Result, result, held_size}
use Rattle.base_surd.specs.declared.Surd.{Surd}
use Rattle.base_surd.specs.Surd as surds
use Rattle.base_surd.specs.Surd.{ticket_with}
use Rattle.walk_state.specs.State.{root_d}
use Rattle.base_ideal.specs.declared.Ideal.{Ideal}
use Rattle.ideal_operand.specs.Ideal.{Operand, Multiplied}
use Rattle.ideal_operand.specs.Operand.{held_pair, K, M, I, operand_ideal, operand_degree}
use Rattle.ideal_descend.specs.Turn.{Reduces}
use Rattle.ideal_reduce.specs.Start.{Start}
use Rattle.ideal_giant.specs.declared.Shift.{Shift}
use Rattle.ideal_giant.specs.Signed.{two_distances}

-- z, with `to`, is the giant step of u at the distance d and v at the distance e
pub record Stepped (s : Surd) (u : Ideal) (d : ℕ) (v : Ideal) (e : ℕ) (z : Ideal) (to : Shift) : Type 0 where
  pub q_is : (b : ℕ) → Is (surds.name s) z.q (giant_done (ticket_with s b) (held_pair u) d (held_pair v) e).q
  pub p_is : (b : ℕ) → Is (surds.name s) z.p (giant_done (ticket_with s b) (held_pair u) d (held_pair v) e).p
  pub f_is : (b : ℕ) → to.f ≡ (giant_done (ticket_with s b) (held_pair u) d (held_pair v) e).f
  pub distance_is : (b : ℕ) → to.distance ≡ (giant_done (ticket_with s b) (held_pair u) d (held_pair v) e).distance

module _ (root : Surd) {u v : Ideal} (t : Operand root u) (t' : Operand root v) where
  abbrev n : ℕ
  n = root.n

  abbrev f : FieldName
  f = surds.name root

  abbrev D : List ℕ
  D = surds.D root

  abbrev h : Admitted f (genus n) D
  h = root.admitted

  abbrev x : Pair ℕ
  x = held_pair u

  abbrev y : Pair ℕ
  y = held_pair v

  abbrev r : Product ℕ
  r = product_of (ops f) D x y

  same : r ≡ record { s = common_of (ops f) x y; ideal = record { q = product_q (ops f) x y; p = product_p (ops f) D x y (bezout_u (ops f) x y) (bezout_w (ops f) x y) } }
  same = product_is (K h) (M h) (I h) D x y

  Q_most : length (product_q (ops f) x y) ≤ suc (genus n + genus n)
  Q_most = (Q_length (K h) (M h) (I h) (operand_ideal h t) (operand_ideal h t') (operand_degree h t) (operand_degree h t')).1

  P_most : length (product_p (ops f) D x y (bezout_u (ops f) x y) (bezout_w (ops f) x y)) < length (product_q (ops f) x y)
  P_most = P_length (K h) (M h) (I h) (operand_ideal h t) (operand_ideal h t') (operand_degree h t) (operand_degree h t')

  product_ideal : IsIdeal (K h) (M h) D r.ideal
  product_ideal = subst (λ (v : Product ℕ). IsIdeal (K h) (M h) D v.ideal) (sym same) (product_of_ideal (surd_of h) (operand_ideal h t) (operand_ideal h t') (operand_degree h t) (operand_degree h t'))

  -- ---- the product as it is held
  module _ {common : Poly} {z : Ideal} (m : Multiplied root u v common z) where
    s_size : common.size ≡ length (common_of (ops f) x y)
    s_size = m.s_is.size_is ∙ ap (λ (v : Product ℕ). length v.s) same

    s_trim : length (trim (ops f) (common_of (ops f) x y)) ≡ length (common_of (ops f) x y)
    s_trim = ap length (trim_gcd (M h) (I h) _ _)

    pub s_bounds : (0 < common.size) × (common.size ≤ suc (genus n))
    s_bounds =
        let e = s_size in
        let v = s_trim in
        let w = S_size (K h) (M h) (I h) D (operand_ideal h t) (operand_ideal h t') in
        let o = common_length (K h) (M h) (I h) (operand_ideal h t) (operand_ideal h t') (operand_degree h t) (operand_degree h t') in
        (omega arith, omega arith)

    s_deg : deg (ops f) r.s ≡ common.size - 1
    unfolding deg size
    s_deg = ap (λ (v : Product ℕ). length (trim (ops f) v.s) - 1) same ∙ (let e = s_size in let v = s_trim in omega arith)

    q_product : Is f z.q (product_q (ops f) x y)
    q_product = subst (λ (v : Product ℕ). Is f z.q v.ideal.q) same m.q_is

    p_product : Is f z.p (product_p (ops f) D x y (bezout_u (ops f) x y) (bezout_w (ops f) x y))
    p_product = subst (λ (v : Product ℕ). Is f z.p v.ideal.p) same m.p_is

    q_result : Result f z.q r.ideal.q
    q_result = subst (λ (v : Product ℕ). Result f z.q v.ideal.q) (sym same) (result {a = z.q} q_product (let e = Q_most in let w = h.genus_most in omega arith) (trim_quo (M h) _ _) (oks_quo (M h) _ _))

    p_result : Result f z.p r.ideal.p
    p_result = subst (λ (v : Product ℕ). Result f z.p v.ideal.p) (sym same) (result {a = z.p} p_product (let e = Q_most in let e' = P_most in let w = h.genus_most in omega arith) (trim_rem (M h) _ _) (oks_rem (M h) _ _))

    pub q_most : z.q.size ≤ suc (genus n + genus n)
    q_most = let e = Q_most in let w = q_product.size_is in omega arith

    q_deg : deg (ops f) r.ideal.q ≡ z.q.size - 1
    unfolding deg size
    q_deg = ap (λ (l : List ℕ). length (trim (ops f) l) - 1) (sym q_result.is) ∙ (let e = held_size {a = z.q} q_result.held in omega arith)

    pair_is : held_pair z ≡ r.ideal
    pair_is = ap₂ (λ (u v : List ℕ). record { q = u; p = v }) q_result.is p_result.is

    -- ---- the pair that it is reduced to
    module _ {a : Ideal} {sum : ℕ} (red : Reduces root (held_pair z) a sum) where
      reduced : Reduces root r.ideal a sum
      reduced = subst (λ (w : Pair ℕ). Reduces root w a sum) pair_is red

      abbrev last : Pair ℕ
      last = steps (ops f) D (root_d f (genus n) D) r.ideal (turns_of (ops f) D (root_d f (genus n) D) (genus n) r.ideal)

      pub most : a.q.size + sum ≤ z.q.size
      most = let e = reduced.most in let w = m.q_is.size_is in omega arith

      -- how far f is below 0
      abbrev fall : ℕ
      fall = (z.q.size - a.q.size - sum) + (common.size - 1)

      pub lower_most : fall ≤ two_distances
      lower_most = let e = q_most in let o = s_bounds in let w = h.genus_most in omega arith

      shift_is : shift_of (ops f) D (root_d f (genus n) D) (genus n) r ≡ neg_ℤ (pos fall)
      unfolding shift_of
      shift_is =
          sum_minus (deg (ops f) last.q) (deg (ops f) r.ideal.q) (degree_sum (ops f) D (root_d f (genus n) D) (genus n) r.ideal (turns_of (ops f) D (root_d f (genus n) D) (genus n) r.ideal)) (deg (ops f) r.s) (z.q.size - a.q.size - sum)
          (let e = reduced.degree_is in let o = q_deg in let w = reduced.sum_is in let v = red.some in let u = most in omega arith)
          ∙ ap (λ (w : ℕ). neg_ℤ (pos ((z.q.size - a.q.size - sum) + w))) s_deg

      -- ---- the answer
      pub stepped : {d₁ d₂ less : ℕ} → less ≡ fall → {i : ℤ} → i ≡ pos 0 -ℤ pos less → {j : ℤ} → j ≡ pos (d₁ + d₂) -ℤ pos less → Stepped root u d₁ v d₂ a (record { f = i; distance = j })
      unfolding giant_done ideal_of root_of
      stepped {d₁} {d₂} less-is i_is j_is = record {
        q_is = λ _. reduced.q_is;
        p_is = λ _. reduced.p_is;
        f_is = λ _. i_is ∙ +ℤ_idl _ ∙ ap (λ (w : ℕ). neg_ℤ (pos w)) less-is ∙ sym shift_is;
        distance_is = λ _. j_is ∙ ap (λ (w : ℕ). pos (d₁ + d₂) +ℤ neg_ℤ (pos w)) less-is ∙ ap (λ (w : ℤ). pos (d₁ + d₂) +ℤ w) (sym shift_is);
      }

    -- where the reduction starts
    pub start_of : Start root z
    start_of = record {
      held_q = q_result.held;
      held_p = p_result.held;
      ideal = subst (IsIdeal (K h) (M h) D) (sym pair_is) product_ideal;
      q_most = q_most;
      p_most = let e = Q_most in let e' = P_most in let w = p_product.size_is in omega arith;
    }
