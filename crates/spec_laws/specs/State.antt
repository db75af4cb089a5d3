-- What a step of the walk takes and leaves, for every index from 0: Q and the Q before it, and the remainder
-- of the step before. Before the first step these are D and d, so that Q_1 = D + d·(0 − d) comes by the same
-- rule as every later Q.
use Prim.Native.Nat.{ℕ, zero, suc, ◌≤◌}
use native.Mathlib.Omega.{arith}
use Rattle.std.specs.Prelude.{◌≡◌, List, [], ◌∷◌, length}
use Rattle.std.proofs.Math.Path.{refl, sym, ap}
use Rattle.std.proofs.Common.{ap₂, ◌∙◌}
use Rattle.math_ring.specs.Ring.{CRing}
use Rattle.math_ring.specs.Identity.{ring, ring_from, times, quote}
use Rattle.math_ring.specs.Series.{Series}
use Rattle.math_algebra.specs.Field.{Field}
use Rattle.math_algebra.specs.Polynomial.{F, Px}
use Rattle.math_surd.specs.Walk.{a_first}
use Rattle.spec_arithmetic.specs.Field.{Ops}
use Rattle.spec_arithmetic.specs.Polynomials.{add, sub, mul, quo, rem}
use Rattle.spec_definitions.specs.Walk as lists
use Rattle.spec_bridge.specs.Model.{Model, Oks, series, series_nil}
use Rattle.spec_bridge.specs.Trim.{series_ext}
use Rattle.spec_bridge.specs.Arithmetic.{oks_add, oks_sub, trim_add, trim_sub, series_add, series_sub, series_mul}
use Rattle.spec_laws.specs.Surd.{Surd, P_zero, P_trim, P_oks, a_is, Q_oks, r_oks}
use Rattle.spec_laws.specs.Surd as surd
use Rattle.spec_laws.specs.Fraction.{fraction, Q_length}
use Rattle.spec_laws.specs.Walk.{d_length, r_length, r_zero, sum_next, Q_one, Q_next}

module _ {A : Type 0} (o : Ops A) (D d : List A) where
  -- Q_{i−1}
  unfoldable pub before : ℕ → List A
  before zero = D
  before (suc i) = lists.Q o D d i

  -- r_{i−1}, the remainder of P_{i−1} + d by Q_{i−1}
  unfoldable pub left : ℕ → List A
  left zero = d
  left (suc i) = rem o (add o (lists.P o D d i) d) (lists.Q o D d i)

module _ {A B : Type 0} {o : Ops A} {K : Field B} {M : Model o (F K)} {g : ℕ} {D d : List A} (s : Surd K M g D d) where
  open Series (F K) use {add as ◌+◌, mul as ◌*◌, neg as -◌, zer as 𝟘, one as 𝟙}

  infixl 6 ◌+◌ ◌-◌
  infixl 7 ◌*◌
  infix 8 -◌
  abbrev ◌-◌ : Px K → Px K → Px K
  a - b = a + (- b)

  abbrev R[x] : CRing (Px K)
  R[x] = Series (F K)

  abbrev Q : ℕ → List A
  Q = lists.Q o D d

  abbrev P : ℕ → List A
  P = lists.P o D d

  abbrev a : ℕ → List A
  a = lists.a o D d

  -- ---- as they are read
  pub before_zero : before o D d 0 ≡ D
  unfolding before
  before_zero = refl

  pub before_suc : (i : ℕ) → before o D d (suc i) ≡ Q i
  unfolding before
  before_suc i = refl

  pub left_zero : left o D d 0 ≡ d
  unfolding left
  left_zero = refl

  left_suc : (i : ℕ) → left o D d (suc i) ≡ surd.r s i
  unfolding left
  left_suc i = refl

  -- ---- no zero at the end, coefficients that stand for themselves, lengths
  pub left_oks : (i : ℕ) → Oks M (left o D d i)
  unfolding left
  left_oks zero = s.reduced
  left_oks (suc i) = r_oks s i

  pub left_length : (i : ℕ) → length (left o D d i) ≤ suc (suc g)
  unfolding left
  left_length zero = let e = d_length s in omega arith
  left_length (suc i) = let e = r_length s i in let h = Q_length s i in omega arith

  pub before_oks : Oks M D → (i : ℕ) → Oks M (before o D d i)
  unfolding before
  before_oks h zero = h
  before_oks h (suc i) = Q_oks s i

  -- Q_{−1} = D is the longest
  pub before_length : (n : ℕ) → length D ≤ n → suc g ≤ n → (i : ℕ) → length (before o D d i) ≤ n
  unfolding before
  before_length n h k zero = h
  before_length n h k (suc i) = let e = Q_length s i in omega arith

  -- ---- one step
  -- what is divided
  pub dividend : (i : ℕ) → sub o (add o d d) (left o D d i) ≡ add o (P i) d
  unfolding left
  dividend zero = series_ext M _ _ (trim_sub M (add o d d) d) (trim_add M (P 0) d) (oks_sub M (add o d d) d) (oks_add M (P 0) d) (series_sub M (add o d d) d ∙ ap (λ (f : Px K). f - series M d) (series_add M d d) ∙ same ∙ sym (series_add M (P 0) d ∙ ap (λ (f : Px K). f + series M d) (ap (series M) (P_zero s) ∙ series_nil M)))
    where
      same : (series M d + series M d) - series M d ≡ 𝟘 + series M d
      same = ring R[x] (series M d ∷ []) (search quote depth 40 fits 9999) tt
  dividend (suc i) = sym (sum_next s i)

  -- P_i = d − r_{i−1}
  pub P_left : (i : ℕ) → P i ≡ sub o d (left o D d i)
  P_left i = series_ext M _ _ (P_trim s i) (trim_sub M d (left o D d i)) (P_oks s i) (oks_sub M d (left o D d i)) (same ∙ sym (series_sub M d (left o D d i)))
    where
      sums : (series M d + series M d) - series M (left o D d i) ≡ series M (P i) + series M d
      sums = sym (series_sub M (add o d d) (left o D d i) ∙ ap (λ (f : Px K). f - series M (left o D d i)) (series_add M d d)) ∙ ap (series M) (dividend i) ∙ series_add M (P i) d

      same : series M (P i) ≡ series M d - series M (left o D d i)
      same = ring_from R[x] (series M (P i) ∷ series M d ∷ series M (left o D d i) ∷ []) (times R[x] (- 𝟙) sums) (search quote depth 40 fits 9999) tt

  pub left_next : (i : ℕ) → left o D d (suc i) ≡ rem o (sub o (add o d d) (left o D d i)) (Q i)
  left_next i = left_suc i ∙ ap (λ (l : List A). rem o l (Q i)) (sym (dividend i))

  pub a_next : (i : ℕ) → a i ≡ quo o (sub o (add o d d) (left o D d i)) (Q i)
  a_next i = a_is s i ∙ ap (λ (l : List A). quo o l (Q i)) (sym (dividend i))

  -- Q_1 = D + d·(0 − d)
  Q_from_D : Q 1 ≡ add o D (mul o (a 0) (sub o (surd.r s 0) d))
  Q_from_D = Q_one s ∙ series_ext M _ _ (trim_sub M D (mul o d d)) (trim_add M D _) (oks_sub M D (mul o d d)) (oks_add M D _) (series_sub M D (mul o d d) ∙ ap (λ (f : Px K). series M D - f) (series_mul M d d) ∙ same ∙ sym (series_add M D _ ∙ ap (λ (f : Px K). series M D + f) (series_mul M (a 0) _ ∙ ap₂ ◌*◌ (a_first K (fraction s)) (series_sub M (surd.r s 0) d ∙ ap (λ (f : Px K). f - series M d) (ap (series M) (r_zero s) ∙ series_nil M)))))
    where
      same : series M D - series M d * series M d ≡ series M D + series M d * (𝟘 - series M d)
      same = ring R[x] (series M D ∷ series M d ∷ []) (search quote depth 40 fits 9999) tt

  by_quotient : (i : ℕ) → Q (suc i) ≡ add o (before o D d i) (mul o (a i) (sub o (left o D d (suc i)) (left o D d i)))
  unfolding before left
  by_quotient zero = Q_from_D
  by_quotient (suc i) = Q_next s i

  -- the next Q from the Q before, Q and the two remainders
  pub Q_step : (i : ℕ) → Q (suc i) ≡ add o (before o D d i) (mul o (quo o (sub o (add o d d) (left o D d i)) (Q i)) (sub o (rem o (sub o (add o d d) (left o D d i)) (Q i)) (left o D d i)))
  Q_step i = by_quotient i ∙ ap₂ (λ (f l : List A). add o (before o D d i) (mul o f (sub o l (left o D d i)))) (a_next i) (left_next i)
