-- The proofs of specs/Recurrence.
use Prim.Native.Nat.{ℕ, zero, suc}
use Rattle.std.specs.Prelude.{◌≡◌, length}
use Rattle.std.proofs.Common.{sym, ap₂, ◌∙◌}
use Rattle.std.proofs.Math.Path.{ap}
use mathlib.Core.List.{List, [], ◌∷◌}
use Rattle.math_ring.specs.Ring.{CRing}
use Rattle.math_ring.specs.Identity.{ring_from, times, plus, quote}
use Rattle.math_ring.specs.Series.{Series}
use Rattle.math_algebra.specs.Field.{Field}
use Rattle.math_algebra.specs.Polynomial.{F, Px, deg_path}
use Rattle.math_algebra.specs.Finite.{Finite, finite_add, finite_sub, finite_mul, cancel_left}
use Rattle.math_surd.specs.Step.{State}
use Rattle.math_ideals.specs.Steps.{height, height_deg}
use Rattle.spec_arithmetic.specs.Field.{Ops}
use Rattle.spec_arithmetic.specs.Polynomials.{add, sub, mul, quo, rem}
use Rattle.spec_definitions.specs.Walk.{Ideal, partial, next_p, next, steps}
use Rattle.spec_bridge.specs.Model.{Model, Oks, series}
use Rattle.spec_bridge.specs.Trim.{Trim, below_length, series_ext}
use Rattle.spec_bridge.specs.Arithmetic.{oks_add, oks_sub, trim_add, trim_sub, series_add, series_sub, series_mul}
use Rattle.spec_bridge.specs.Division.{trim_quo, oks_quo, oks_rem}
use Rattle.spec_bridge.specs.Degree.{deg_size}
use Rattle.spec_laws.specs.Surd.{Surd}
use Rattle.spec_laws.specs.Pairs.{cofactor_at}
use Rattle.spec_laws.specs.Reduction.{Q_deg, follows_at, sequence}
use Rattle.ideal_descend.specs.Recurrence.{before, left}

module _ {A B : Type 0} {o : Ops A} {K : Field B} {M : Model o (F K)} {g : ℕ} {D d : List A} (z : Surd K M g D d) (x : Ideal A) (st : State K (series M D) (series M x.q) (series M (cofactor_at o D x)) (series M x.p)) where
  open Series (F K) use {add as ◌+◌, mul as ◌*◌, neg as -◌, one as 𝟙}

  infixl 6 ◌+◌ ◌-◌
  infixl 7 ◌*◌
  infix 8 -◌
  abbrev ◌-◌ : Px K → Px K → Px K
  a - b = a + (- b)

  abbrev R[x] : CRing (Px K)
  R[x] = Series (F K)

  abbrev Q : ℕ → List A
  Q j = (steps o D d x j).q

  abbrev P : ℕ → List A
  P j = (steps o D d x j).p

  abbrev a : ℕ → List A
  a j = partial o D d (steps o D d x j)

  abbrev B' : ℕ → List A
  B' = before o D d x

  abbrev l : ℕ → List A
  l = left o D d x

  -- ---- no zero at the end, coefficients that stand for themselves
  pub left_oks : (j : ℕ) → Oks M (l j)
  unfolding left
  left_oks zero = oks_sub M d x.p
  left_oks (suc j) = oks_rem M _ _

  pub before_oks : Oks M x.q → (j : ℕ) → Oks M (B' j)
  unfolding before steps next
  before_oks h zero = oks_quo M _ _
  before_oks h (suc zero) = h
  before_oks h (suc (suc j)) = oks_quo M _ _

  trim_Q : (j : ℕ) → Trim M (Q (suc j))
  unfolding steps next
  trim_Q j = trim_quo M _ _

  oks_Q : (j : ℕ) → Oks M (Q (suc j))
  unfolding steps next
  oks_Q j = oks_quo M _ _

  trim_P : (j : ℕ) → Trim M (P (suc j))
  unfolding steps next next_p
  trim_P j = trim_sub M _ _

  oks_P : (j : ℕ) → Oks M (P (suc j))
  unfolding steps next next_p
  oks_P j = oks_sub M _ _

  -- ---- P from the remainder
  -- P_j + d = a_j·Q_j + r_j
  divide : (j : ℕ) → series M (P j) + series M d ≡ series M (a j) * series M (Q j) + series M (l (suc j))
  unfolding left
  divide j = ((sequence z x st).division j).is

  -- P_{j+1} = a_j·Q_j − P_j
  P_next : (j : ℕ) → series M (P (suc j)) ≡ series M (a j) * series M (Q j) - series M (P j)
  unfolding steps next next_p
  P_next j = series_sub M (mul o (a j) (Q j)) (P j) ∙ ap (λ (f : Px K). f - series M (P j)) (series_mul M (a j) (Q j))

  P_series : (j : ℕ) → series M (P j) ≡ series M d - series M (l j)
  unfolding left steps
  P_series zero = ring_from R[x] (series M x.p ∷ series M d ∷ series M (sub o d x.p) ∷ []) (times R[x] 𝟙 (series_sub M d x.p)) (search quote depth 40 fits 9999) tt
  P_series (suc j) = ring_from R[x] (series M (P (suc j)) ∷ series M (P j) ∷ series M (a j) ∷ series M (Q j) ∷ series M d ∷ series M (l (suc j)) ∷ []) (plus R[x] (times R[x] 𝟙 (P_next j)) (times R[x] (- 𝟙) (divide j))) (search quote depth 40 fits 9999) tt

  pub P_left : Trim M (P 0) → Oks M (P 0) → (j : ℕ) → P j ≡ sub o d (l j)
  P_left t k j = series_ext M _ _ (p_trim j) (trim_sub M d (l j)) (p_oks j) (oks_sub M d (l j)) (P_series j ∙ sym (series_sub M d (l j)))
    where
      p_trim : (j : ℕ) → Trim M (P j)
      p_trim zero = t
      p_trim (suc j) = trim_P j

      p_oks : (j : ℕ) → Oks M (P j)
      p_oks zero = k
      p_oks (suc j) = oks_P j

  -- what is divided
  pub dividend : (j : ℕ) → sub o (add o d d) (l j) ≡ add o (P j) d
  dividend j = series_ext M _ _ (trim_sub M (add o d d) (l j)) (trim_add M (P j) d) (oks_sub M (add o d d) (l j)) (oks_add M (P j) d) (series_sub M (add o d d) (l j) ∙ ap (λ (f : Px K). f - series M (l j)) (series_add M d d) ∙ same ∙ sym (series_add M (P j) d))
    where
      same : (series M d + series M d) - series M (l j) ≡ series M (P j) + series M d
      same = ring_from R[x] (series M (P j) ∷ series M d ∷ series M (l j) ∷ []) (times R[x] (- 𝟙) (P_series j)) (search quote depth 40 fits 9999) tt

  pub left_next : (j : ℕ) → l (suc j) ≡ rem o (sub o (add o d d) (l j)) (Q j)
  unfolding left
  left_next j = ap (λ (f : List A). rem o f (Q j)) (sym (dividend j))

  a_next : (j : ℕ) → a j ≡ quo o (sub o (add o d d) (l j)) (Q j)
  unfolding partial
  a_next j = ap (λ (f : List A). quo o f (Q j)) (sym (dividend j))

  -- ---- the next Q
  -- D = P_j² + Q_j-as-Q_{j−1}
  norm_of_pair : (j : ℕ) → series M D ≡ series M (P j) * series M (P j) + series M (Q j) * series M (B' j)
  unfolding before steps
  norm_of_pair zero = st.norm
  norm_of_pair (suc j) = (follows_at z x st j).norm

  finite : (f : List A) → Finite K (series M f)
  finite f = record { size = length f; low = below_length M f }

  Q_series : (j : ℕ) → series M (Q (suc j)) ≡ series M (B' j) + series M (a j) * (series M (l (suc j)) - series M (l j))
  Q_series j = cancel_left K (Q_deg z x st j) (finite (Q (suc j))) (finite_add K (finite (B' j)) (finite_mul K (finite (a j)) (finite_sub K (finite (l (suc j))) (finite (l j))))) product
    where
      after_norm : series M D ≡ series M (P (suc j)) * series M (P (suc j)) + series M (Q (suc j)) * series M (Q j)
      after_norm = (follows_at z x st j).norm

      product : series M (Q j) * series M (Q (suc j)) ≡ series M (Q j) * (series M (B' j) + series M (a j) * (series M (l (suc j)) - series M (l j)))
      product = ring_from R[x] (series M D ∷ series M (P j) ∷ series M (P (suc j)) ∷ series M (Q j) ∷ series M (Q (suc j)) ∷ series M (B' j) ∷ series M (a j) ∷ series M (l j) ∷ series M (l (suc j)) ∷ series M d ∷ [])
          (plus R[x] (times R[x] (- 𝟙) after_norm) (plus R[x] (times R[x] 𝟙 (norm_of_pair j)) (plus R[x] (times R[x] (series M (P j) + series M (P (suc j))) (P_series j))
          (plus R[x] (times R[x] (series M (l (suc j)) - series M (l j) - (series M (P j) + series M (P (suc j)))) (P_series (suc j))) (times R[x] (series M (l (suc j)) - series M (l j)) (divide j))))))
          (search quote depth 40 fits 9999) tt

  pub Q_step : (j : ℕ) → Q (suc j) ≡ add o (B' j) (mul o (quo o (sub o (add o d d) (l j)) (Q j)) (sub o (rem o (sub o (add o d d) (l j)) (Q j)) (l j)))
  Q_step j = by_quotient ∙ ap₂ (λ (f h : List A). add o (B' j) (mul o f (sub o h (l j)))) (a_next j) (left_next j)
    where
      spread : series M (add o (B' j) (mul o (a j) (sub o (l (suc j)) (l j)))) ≡ series M (B' j) + series M (a j) * (series M (l (suc j)) - series M (l j))
      spread = series_add M (B' j) _ ∙ ap (λ (f : Px K). series M (B' j) + f) (series_mul M (a j) _ ∙ ap (λ (f : Px K). series M (a j) * f) (series_sub M (l (suc j)) (l j)))

      by_quotient : Q (suc j) ≡ add o (B' j) (mul o (a j) (sub o (l (suc j)) (l j)))
      by_quotient = series_ext M _ _ (trim_Q j) (trim_add M _ _) (oks_Q j) (oks_add M _ _) (Q_series j ∙ sym spread)

  -- ---- the size of P_j + d, past the start
  pub height_size : (j : ℕ) → length (add o (P (suc j)) d) ≡ suc (height K (sequence z x st) j)
  height_size j = sym (ap length (trim_add M (P (suc j)) d)) ∙ deg_size K M (add o (P (suc j)) d) (deg_path K _ (sym (series_add M (P (suc j)) d)) (height_deg K (sequence z x st) j))
