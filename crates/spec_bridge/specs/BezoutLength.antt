-- How long the factors of `bezout` are: u is shorter than b, and v is shorter than a or constant. By
-- induction along the remainders, which fall.
use Rattle.std.specs.Prelude.{ℕ, zero, suc, ◌-◌ as ◌-ₙ◌, ◌≤◌, ◌<◌, ◌≡◌, refl, List, [], ◌∷◌, length}
use Rattle.std.proofs.Common.{zero-le, arith, sym, ap, subst, ⊎_elim}
use Rattle.math_ring.specs.Ring.{CRing}
use Rattle.math_ring.specs.Order.{le_or_lt}
use Rattle.spec_arithmetic.specs.Field.{Ops}
use Rattle.spec_arithmetic.specs.Polynomials.{Bezout, trim, mul, lead, quo, rem, bezout}
use Rattle.spec_bridge.specs.Model.{Model, Inverts}
use Rattle.spec_bridge.specs.Trim.{trim_nil, length_trim}
use Rattle.spec_bridge.specs.Lengths.{length_sub, length_mul, length_mul_none}
use Rattle.spec_bridge.specs.Division.{trim_rem, rem_less}
use Rattle.spec_bridge.specs.Quotient.{quo_length, rem_length}
use Rattle.spec_bridge.specs.Gcd.{bezout_next, bezout_last, bezout_zero, bezout_rule}

module _ {A B : Type 0} {o : Ops A} {R : CRing B} (M : Model o R) (I : Inverts M) where
  record Short (a b : List A) (r : Bezout A) : Type 0 where
    u_short : 0 < length (trim o b) → length r.u < length (trim o b)
    u_constant : length (trim o b) < 1 → length r.u ≤ 1
    v_short : (n : ℕ) → 1 ≤ n → length (trim o a) ≤ suc n → length r.v ≤ n
    v_none : length (trim o b) < 1 → length r.v ≡ 0

  last_short : (a b : List A) → length (trim o b) < 1 → Short a b (bezout_last o a)
  unfolding bezout_last
  last_short a b h = record {
    u_short = λ k. absurd (omega arith);
    u_constant = λ k. length_trim M (o.inv (lead o a) ∷ []);
    v_short = λ n k l. zero-le;
    v_none = λ k. refl;
  }

  -- ---- from the factors r for b and the remainder to those for a and b
  module _ (a b : List A) (some : 0 < length (trim o b)) (r : Bezout A) (s : Short b (rem o a b) r) where
    size_rest : length (trim o (rem o a b)) ≡ length (rem o a b)
    size_rest = ap length (trim_rem M a b)

    rest_less : length (rem o a b) < length (trim o b)
    rest_less = rem_less M I a b some

    v_less : length r.v < length (trim o b)
    v_less = ⊎_elim (λ h. let w : length r.v ≤ length (trim o b) -ₙ 1 = s.v_short (length (trim o b) -ₙ 1) (omega (arith, size_rest, rest_less)) (omega arith) in omega arith) (λ h. let w = s.v_none h in omega arith) (le_or_lt 1 (length (trim o (rem o a b))))

    u_le : (n : ℕ) → 1 ≤ n → length (trim o a) ≤ suc n → length r.u ≤ n
    u_le n k l = ⊎_elim (λ h. let w = s.u_short h in let w' = rem_length M I a b in omega (arith, size_rest)) (λ h. let w = s.u_constant h in omega arith) (le_or_lt 1 (length (trim o (rem o a b))))

    product_le : (n : ℕ) → length (trim o a) ≤ suc n → length (mul o (quo o a b) r.v) ≤ n
    product_le n l =
        let q = quo_length M a b in
        let q' = length_trim M (quo o a b) in
        let v' = length_trim M r.v in
        ⊎_elim (λ h. length_mul M (quo o a b) r.v n (omega (arith, v_less))) (λ h. let w = length_mul_none M (quo o a b) r.v (omega arith) in omega arith) (le_or_lt (length (trim o b)) (length (trim o a)))

    next_short : Short a b (bezout_next o (quo o a b) r)
    unfolding bezout_next
    next_short = record {
      u_short = λ h. v_less;
      u_constant = λ h. absurd (omega arith);
      v_short = λ n k l. length_sub M r.u (mul o (quo o a b) r.v) n (let w = length_trim M r.u in let w' = u_le n k l in omega arith) (let w = length_trim M (mul o (quo o a b) r.v) in let w' = product_le n l in omega arith);
      v_none = λ h. absurd (omega arith);
    }

  -- k bounds the size of b
  turns : (k : ℕ) (a b : List A) → length (trim o b) < k → Short a b (bezout o a b)
  turns zero a b h = absurd (omega arith)
  turns (suc k) a b h = ⊎_elim (λ some. step some (λ l. turns k b (rem o a b) l)) (λ none. subst (Short a b) (sym (bezout_zero M I a b (trim_nil M b (omega arith)))) (last_short a b none)) (le_or_lt 1 (length (trim o b)))
    where
      step : 0 < length (trim o b) → (length (trim o (rem o a b)) < k → Short b (rem o a b) (bezout o b (rem o a b))) → Short a b (bezout o a b)
      step some ih =
          let e : length (trim o (rem o a b)) ≡ length (rem o a b) = ap length (trim_rem M a b) in
          let l : length (rem o a b) < length (trim o b) = rem_less M I a b some in
          subst (Short a b) (sym (bezout_rule M I a b some)) (next_short a b some (bezout o b (rem o a b)) (ih (omega arith)))

  short : (a b : List A) → Short a b (bezout o a b)
  short a b = turns (suc (length (trim o b))) a b (omega arith)

  -- ---- the bounds
  pub bezout_u_length : (a b : List A) → 0 < length (trim o b) → length (bezout o a b).u < length (trim o b)
  bezout_u_length a b = (short a b).u_short

  -- where b is 0, u is constant
  pub bezout_u_constant : (a b : List A) → trim o b ≡ [] → length (bezout o a b).u ≤ 1
  bezout_u_constant a b z = (short a b).u_constant (let w = ap length z in omega arith)

  pub bezout_v_length : (a b : List A) (n : ℕ) → 1 ≤ n → length (trim o a) ≤ suc n → length (bezout o a b).v ≤ n
  bezout_v_length a b = (short a b).v_short
