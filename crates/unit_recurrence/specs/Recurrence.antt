-- The convergents by one rule from index 0 on: p_{−2} = 0 and s_{−2} = 1 stand before p_{−1} = 1 and s_{−1} =
-- 0, so that p_0 = a_0·1 + 0 = d and s_0 = a_0·0 + 1. How long each is.
use Prim.Native.Nat.{ℕ, zero, suc, ◌≤◌}
use native.Mathlib.Omega.{arith}
use Rattle.std.specs.Prelude.{◌≡◌, length}
use Rattle.std.proofs.Math.Path.{refl, sym, ap₂}
use Rattle.std.proofs.Common.{ap, ◌∙◌}
use mathlib.Core.List.{List, [], ◌∷◌}
use Rattle.math_ring.specs.Series.{Series}
use Rattle.math_algebra.specs.Field.{Field}
use Rattle.math_algebra.specs.Polynomial.{F, Px}
use Rattle.spec_arithmetic.specs.Field.{Ops}
use Rattle.spec_arithmetic.specs.Polynomials.{add, mul}
use Rattle.spec_definitions.specs.Walk.{p_before, s_before, degree_before}
use Rattle.spec_definitions.specs.Walk as lists
use Rattle.spec_bridge.specs.Model.{Model, Oks, series, series_nil}
use Rattle.spec_bridge.specs.Trim.{series_ext}
use Rattle.spec_bridge.specs.Arithmetic.{oks_nil, oks_add, trim_add, series_add, series_mul}
use Rattle.spec_laws.specs.Surd.{Surd, series_one, oks_one}
use Rattle.spec_laws.specs.Convergents.{p_suc, s_suc, s_zero, p_trim, p_oks, s_trim, s_oks, p_series, s_series, p_length, s_length, degree_rise}

module _ {A : Type 0} (o : Ops A) (D d : List A) where
  -- p_{i−2}
  unfoldable pub p_older : ℕ → List A
  p_older zero = []
  p_older (suc i) = p_before o D d i

  -- s_{i−2}
  unfoldable pub s_older : ℕ → List A
  s_older zero = o.one ∷ []
  s_older (suc i) = s_before o D d i

module _ {A B : Type 0} {o : Ops A} {K : Field B} {M : Model o (F K)} {g : ℕ} {D d : List A} (h : Surd K M g D d) where
  open Series (F K) use {add as ◌+◌, mul as ◌*◌}

  infixl 6 ◌+◌
  infixl 7 ◌*◌
  abbrev a : ℕ → List A
  a = lists.a o D d

  abbrev p : ℕ → List A
  p = p_before o D d

  abbrev s : ℕ → List A
  s = s_before o D d

  -- ---- as they are read
  pub p_older_zero : p_older o D d 0 ≡ []
  unfolding p_older
  p_older_zero = refl

  pub s_older_zero : s_older o D d 0 ≡ o.one ∷ []
  unfolding s_older
  s_older_zero = refl

  pub p_older_suc : (i : ℕ) → p_older o D d (suc i) ≡ p i
  unfolding p_older
  p_older_suc i = refl

  pub s_older_suc : (i : ℕ) → s_older o D d (suc i) ≡ s i
  unfolding s_older
  s_older_suc i = refl

  -- ---- one step
  step_series : (f x y : List A) → series M (add o (mul o f x) y) ≡ series M f * series M x + series M y
  step_series f x y = series_add M (mul o f x) y ∙ ap (λ (u : Px K). u + series M y) (series_mul M f x)

  pub p_next : (i : ℕ) → p (suc i) ≡ add o (mul o (a i) (p i)) (p_older o D d i)
  unfolding p_older p_before
  p_next zero = series_ext M _ _ (p_trim h 1) (trim_add M _ _) (p_oks h 1) (oks_add M _ _) (p_series h 1 ∙ sym (step_series (a 0) (o.one ∷ []) [] ∙ ap₂ (λ (x y : Px K). series M (a 0) * x + y) (series_one K M) (series_nil M)))
  p_next (suc i) = p_suc h i

  pub s_next : (i : ℕ) → s (suc i) ≡ add o (mul o (a i) (s i)) (s_older o D d i)
  unfolding s_older s_before
  s_next zero = series_ext M _ _ (s_trim h 1) (trim_add M _ _) (s_oks h 1) (oks_add M _ _) (s_series h 1 ∙ sym (step_series (a 0) [] (o.one ∷ []) ∙ ap₂ (λ (x y : Px K). series M (a 0) * x + y) (series_nil M) (series_one K M)))
  s_next (suc i) = s_suc h i

  -- ---- coefficients that stand for themselves
  pub p_older_oks : (i : ℕ) → Oks M (p_older o D d i)
  unfolding p_older
  p_older_oks zero = oks_nil M
  p_older_oks (suc i) = p_oks h i

  pub s_older_oks : (i : ℕ) → Oks M (s_older o D d i)
  unfolding s_older
  s_older_oks zero = oks_one K M
  s_older_oks (suc i) = s_oks h i

  -- ---- none is longer than p_{i−1}
  pub s_short : (i : ℕ) → length (s i) ≤ suc (degree_before o D d i)
  s_short zero = let e : length (s 0) ≡ 0 = ap length (s_zero h) in omega arith
  s_short (suc i) = let e = s_length h i in omega arith

  pub p_older_short : (i : ℕ) → length (p_older o D d i) ≤ suc (degree_before o D d i)
  unfolding p_older
  p_older_short zero = omega arith
  p_older_short (suc i) = let e = p_length h i in let l = degree_rise h i (suc i) (omega arith) in omega arith

  pub s_older_short : (i : ℕ) → length (s_older o D d i) ≤ suc (degree_before o D d i)
  unfolding s_older
  s_older_short zero = omega arith
  s_older_short (suc i) = let e = s_short i in let l = degree_rise h i (suc i) (omega arith) in omega arith
