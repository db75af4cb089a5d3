-- How long each list of the product is, for two ideals of degree at most g: every one has at most 4g + 3
-- coefficients, and so at most 127 for g ≤ 31. The bounds of Bezout's factors carry it; the rest is the
-- length of sums, products and quotients.
use Rattle.std.specs.Prelude.{ℕ, suc, ◌+◌ as ◌+ₙ◌, ◌≤◌, ◌<◌, ◌≡◌, List, length}
use Rattle.std.proofs.Common.{arith, ap, ⊎_elim}
use Rattle.math_ring.specs.Order.{le_or_lt}
use Rattle.math_algebra.specs.Field.{Field}
use Rattle.math_algebra.specs.Polynomial.{F, monic_deg}
use Rattle.spec_arithmetic.specs.Field.{Ops}
use Rattle.spec_arithmetic.specs.Polynomials.{trim, add, sub, mul, gcd, bezout}
use Rattle.spec_definitions.specs.Walk.{Ideal}
use Rattle.spec_bridge.specs.Model.{Model, Inverts}
use Rattle.spec_bridge.specs.Trim.{length_trim, trim_nil, size_le}
use Rattle.spec_bridge.specs.Division.{rem_less, trim_quo}
use Rattle.spec_bridge.specs.Quotient.{quo_length}
use Rattle.spec_bridge.specs.Lengths.{length_add, length_sub, length_mul}
use Rattle.spec_bridge.specs.Degree.{deg_size}
use Rattle.spec_bridge.specs.Bezout.{length_gcd}
use Rattle.spec_bridge.specs.BezoutLength.{bezout_u_length, bezout_u_constant, bezout_v_length}
use Rattle.spec_laws.specs.Pairs.{IsIdeal, norm_at, cofactor_at}
use Rattle.spec_laws.specs.Product.{common_of, product_q, bracket, unreduced_p, product_p, bezout_u, bezout_w, Q_size}

module _ {A B : Type 0} {o : Ops A} (K : Field B) (M : Model o (F K)) (I : Inverts M) {D : List A} {g : ℕ} where
  -- the lists of an ideal
  module _ {x : Ideal A} (hx : IsIdeal K M D x) (lx : hx.κ ≤ g) where
    pub ideal_q_size : (0 < length (trim o x.q)) × (length (trim o x.q) ≤ suc g)
    ideal_q_size = let e = deg_size K M x.q (monic_deg K hx.monic) in (omega arith, omega arith)

    pub ideal_p_size : length (trim o x.p) ≤ g
    ideal_p_size = let e = size_le M x.p hx.κ hx.low in omega arith

    -- P² and D − P²
    pub square_length : length (mul o x.p x.p) ≤ g +ₙ g
    square_length = let e = ideal_p_size in length_mul M x.p x.p (g +ₙ g) (omega arith)

    pub norm_length : length (trim o D) ≤ suc (suc g +ₙ suc g) → length (norm_at o D x) ≤ suc (suc g +ₙ suc g)
    norm_length l = let e = square_length in let e' = length_trim M (mul o x.p x.p) in length_sub M D (mul o x.p x.p) (suc (suc g +ₙ suc g)) l (omega arith)

    pub cofactor_length : length (trim o D) ≤ suc (suc g +ₙ suc g) → length (cofactor_at o D x) ≤ suc (suc g +ₙ suc g)
    cofactor_length l = let a = quo_length M (norm_at o D x) x.q in let b = ideal_q_size in let c = norm_length l in let e = length_trim M (norm_at o D x) in omega arith

  module _ {x y : Ideal A} (hx : IsIdeal K M D x) (hy : IsIdeal K M D y) (lx : hx.κ ≤ g) (ly : hy.κ ≤ g) where
    abbrev G : List A
    G = gcd o x.q y.q

    abbrev T : List A
    T = add o x.p y.p

    -- ---- S and its multipliers
    pub gcd_length : length G ≤ suc g
    gcd_length = length_gcd M I x.q y.q (suc g) (ideal_q_size hx lx).1 (ideal_q_size hy ly).1

    pub sum_length : length T ≤ g
    sum_length = length_add M x.p y.p g (ideal_p_size hx lx) (ideal_p_size hy ly)

    pub common_length : length (common_of o x y) ≤ suc g
    common_length = let a = gcd_length in let a' = length_trim M G in let b = sum_length in let b' = length_trim M T in length_gcd M I G T (suc g) (omega arith) (omega arith)

    -- of the first two
    pub first_u_length : length (bezout o x.q y.q).u ≤ g
    first_u_length = let a = ideal_q_size hy ly in let b = bezout_u_length M I x.q y.q a.0 in omega arith

    -- of their gcd and the sum
    pub second_u_length : length (bezout o G T).u ≤ suc g
    second_u_length = let b = sum_length in let b' = length_trim M T in ⊎_elim (λ h. let c = bezout_u_length M I G T h in omega arith) (λ h. let c = bezout_u_constant M I G T (trim_nil M T (omega arith)) in omega arith) (le_or_lt 1 (length (trim o T)))

    pub W_length : length (bezout_w o x y) ≤ suc g
    W_length = bezout_v_length M I G T (suc g) (omega arith) (let a = gcd_length in let a' = length_trim M G in omega arith)

    pub U_length : length (bezout_u o x y) ≤ g +ₙ g
    U_length = let a = first_u_length in let a' = length_trim M (bezout o x.q y.q).u in let b = second_u_length in let b' = length_trim M (bezout o G T).u in length_mul M (bezout o G T).u (bezout o x.q y.q).u (g +ₙ g) (omega arith)

    -- ---- Q
    pub Q_length : (0 < length (product_q o x y)) × (length (product_q o x y) ≤ suc (g +ₙ g))
    Q_length = let a : length (trim o (product_q o x y)) ≡ length (product_q o x y) = ap length (trim_quo M (mul o x.q y.q) (mul o (common_of o x y) (common_of o x y))) in let e = Q_size K M I D hx hy in (omega arith, omega arith)

    -- ---- P
    pub difference_length : length (sub o y.p x.p) ≤ g
    difference_length = length_sub M y.p x.p g (ideal_p_size hy ly) (ideal_p_size hx lx)

    pub U_product_length : length (mul o (bezout_u o x y) (sub o y.p x.p)) ≤ g +ₙ g +ₙ g
    U_product_length = let a = U_length in let a' = length_trim M (bezout_u o x y) in let b = difference_length in let b' = length_trim M (sub o y.p x.p) in length_mul M (bezout_u o x y) (sub o y.p x.p) (g +ₙ g +ₙ g) (omega arith)

    module _ (l_d : length (trim o D) ≤ suc (suc g +ₙ suc g)) where
      pub W_product_length : length (mul o (bezout_w o x y) (cofactor_at o D x)) ≤ 3 +ₙ (g +ₙ g +ₙ g)
      W_product_length = let a = W_length in let a' = length_trim M (bezout_w o x y) in let b = cofactor_length hx lx l_d in let b' = length_trim M (cofactor_at o D x) in length_mul M (bezout_w o x y) (cofactor_at o D x) (3 +ₙ (g +ₙ g +ₙ g)) (omega arith)

      pub bracket_length : length (bracket o D x y (bezout_u o x y) (bezout_w o x y)) ≤ 3 +ₙ (g +ₙ g +ₙ g)
      bracket_length =
          let a = U_product_length in
          let a' = length_trim M (mul o (bezout_u o x y) (sub o y.p x.p)) in
          let b = W_product_length in
          let b' = length_trim M (mul o (bezout_w o x y) (cofactor_at o D x)) in
          length_add M (mul o (bezout_u o x y) (sub o y.p x.p)) (mul o (bezout_w o x y) (cofactor_at o D x)) (3 +ₙ (g +ₙ g +ₙ g)) (omega arith) (omega arith)

    pub P_length : length (product_p o D x y (bezout_u o x y) (bezout_w o x y)) < length (product_q o x y)
    P_length =
        let a : length (trim o (product_q o x y)) ≡ length (product_q o x y) = ap length (trim_quo M (mul o x.q y.q) (mul o (common_of o x y) (common_of o x y))) in
        let e = Q_size K M I D hx hy in
        let b = rem_less M I (unreduced_p o D x y (bezout_u o x y) (bezout_w o x y)) (product_q o x y) (omega arith) in
        omega arith
