-- How long each list of the reduction is, from a start with deg Q ≤ 2g and deg P < deg Q: every one has at
-- most 4g + 3 coefficients, and so at most 127 for g ≤ 31. No Q has a larger degree than the start's or g,
-- and each later P is d less a remainder by a Q. No list has a zero at its end, and each coefficient stands
-- for itself.
use Prim.Native.Nat.{ℕ, zero, suc, ◌+◌ as ◌+ₙ◌, ◌≤◌, ◌<◌}
use native.Mathlib.Omega.{arith}
use Rattle.std.specs.Prelude.{◌≡◌, List, [], ◌∷◌, length}
use Rattle.math_ring.specs.Identity.{ring, quote}
use Rattle.math_ring.specs.Series.{Series}
use Rattle.math_algebra.specs.Field.{Field}
use Rattle.math_algebra.specs.Polynomial.{F, Px, low_up, low_add, low_path, deg_unique}
use Rattle.math_surd.specs.Step.{State}
use Rattle.math_ideals.proofs.Steps.{degree_most}
use Rattle.spec_arithmetic.specs.Field.{Ops}
use Rattle.spec_arithmetic.specs.Polynomials.{trim, deg, add, mul}
use Rattle.spec_definitions.specs.Walk.{Ideal, next_p, next, steps}
use Rattle.spec_bridge.specs.Model.{Model, Oks, series}
use Rattle.spec_bridge.specs.Trim.{Trim, length_trim, size_le}
use Rattle.spec_bridge.specs.Arithmetic.{oks_sub, trim_sub}
use Rattle.spec_bridge.specs.Division.{oks_quo, trim_quo}
use Rattle.spec_bridge.specs.Lengths.{length_add, length_sub, length_mul}
use Rattle.spec_laws.specs.Surd.{Surd}
use Rattle.spec_laws.specs.Pairs.{norm_at}
use Rattle.spec_laws.specs.Walk.{d_length}
use Rattle.spec_laws.specs.Reduction.{Q, P, a_at, Q_size, Q_deg, follows_at, sequence}

module _ {A B : Type 0} {o : Ops A} {K : Field B} {M : Model o (F K)} {g : ℕ} {D d : List A} (z : Surd K M g D d) (x : Ideal A) {C : Px K} (st : State K (series M D) (series M x.q) C (series M x.p)) where
  open Series (F K) use {add as ◌+◌, neg as -◌}

  infixl 6 ◌+◌ ◌-◌
  infix 8 -◌
  abbrev ◌-◌ : Px K → Px K → Px K
  a - b = a + (- b)

  abbrev q_at : ℕ → List A
  q_at = Q z x st

  abbrev p_at : ℕ → List A
  p_at = P z x st

  abbrev a : ℕ → List A
  a = a_at z x st

  -- ---- no zero at the end
  pub Q_trim : Trim M x.q → (j : ℕ) → Trim M (q_at j)
  unfolding steps next
  Q_trim t zero = t
  Q_trim t (suc j) = trim_quo M (norm_at o D (steps o D d x (suc j))) (q_at j)

  pub P_trim : Trim M x.p → (j : ℕ) → Trim M (p_at j)
  unfolding steps next next_p
  P_trim t zero = t
  P_trim t (suc j) = trim_sub M (mul o (a j) (q_at j)) (p_at j)

  pub Q_oks : Oks M x.q → (j : ℕ) → Oks M (q_at j)
  unfolding steps next
  Q_oks t zero = t
  Q_oks t (suc j) = oks_quo M (norm_at o D (steps o D d x (suc j))) (q_at j)

  pub P_oks : Oks M x.p → (j : ℕ) → Oks M (p_at j)
  unfolding steps next next_p
  P_oks t zero = t
  P_oks t (suc j) = oks_sub M (mul o (a j) (q_at j)) (p_at j)

  -- ---- lengths
  module _ (lq : deg o x.q ≤ g +ₙ g) (lp : length (trim o x.p) ≤ g +ₙ g) (l_d : length (trim o D) ≤ suc (suc g +ₙ suc g)) where
    pub Q_most : (j : ℕ) → (0 < length (trim o (q_at j))) × (length (trim o (q_at j)) ≤ suc (g +ₙ g))
    unfolding steps
    Q_most j = let a = Q_size z x st j in let b = degree_most K (sequence z x st) (g +ₙ g) (omega arith) lq j in (omega arith, omega arith)

    pub P_most : (j : ℕ) → length (trim o (p_at j)) ≤ 2 +ₙ (g +ₙ g)
    unfolding steps
    P_most zero = omega arith
    P_most (suc j) = size_le M (p_at (suc j)) (2 +ₙ (g +ₙ g)) (low_path K _ same (low_add K (series M d) (series M (p_at (suc j)) - series M d) _ (low_up K (series M d) (omega arith) z.is_root.monic.low) (low_up K _ (let e = κ_same in let b = Q_most j in let c = Q_size z x st j in omega arith) (follows_at z x st j).near)))
      where
        κ_same : (follows_at z x st j).κ ≡ deg o (q_at j)
        κ_same = deg_unique K (follows_at z x st j).deg (Q_deg z x st j)

        same : series M d + (series M (p_at (suc j)) - series M d) ≡ series M (p_at (suc j))
        same = ring (Series (F K)) (series M d ∷ series M (p_at (suc j)) ∷ []) (search quote depth 40 fits 9999) tt

    pub square_most : (j : ℕ) → length (mul o (p_at j) (p_at j)) ≤ 3 +ₙ (g +ₙ g +ₙ g +ₙ g)
    square_most j = let e = P_most j in length_mul M (p_at j) (p_at j) (3 +ₙ (g +ₙ g +ₙ g +ₙ g)) (omega arith)

    -- D − P²
    pub norm_most : (j : ℕ) → length (norm_at o D (steps o D d x j)) ≤ 3 +ₙ (g +ₙ g +ₙ g +ₙ g)
    norm_most j = let e = square_most j in let e' = length_trim M (mul o (p_at j) (p_at j)) in length_sub M D (mul o (p_at j) (p_at j)) (3 +ₙ (g +ₙ g +ₙ g +ₙ g)) (omega arith) (omega arith)

    -- P + d
    pub sum_most : (j : ℕ) → length (add o (p_at j) d) ≤ 2 +ₙ (g +ₙ g)
    sum_most j = let e = P_most j in let c = d_length z in let c' = length_trim M d in length_add M (p_at j) d (2 +ₙ (g +ₙ g)) e (omega arith)
