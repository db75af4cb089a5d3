-- The definitions' convergents are those of the continued fraction; their degrees: deg p_{i−1} rises by g + 1
-- − deg Q_i, and s_i is g + 1 below p_i.
use Prim.Native.Nat.{ℕ, zero, suc, ◌+◌ as ◌+ₙ◌, ◌-◌ as ◌-ₙ◌, ◌*◌ as ◌*ₙ◌, ◌≤◌, ◌<◌}
use native.Mathlib.Omega.{arith}
use Rattle.std.specs.Prelude.{◌≡◌, List, [], ◌∷◌, length}
use Rattle.std.proofs.Math.Path.{refl, subst}
use Rattle.std.proofs.Common.{sym, ap, ap₂, ◌∙◌}
use Rattle.math_ring.specs.Ring.{CRing}
use Rattle.math_ring.specs.Identity.{ring, ring_from, times, quote}
use Rattle.math_ring.specs.Series.{Series}
use Rattle.math_algebra.specs.Field.{Field}
use Rattle.math_algebra.specs.Polynomial.{F, Px, deg_path}
use Rattle.math_surd.specs.Walk.{a_first}
use Rattle.math_surd.specs.Convergents as convergents
use Rattle.math_surd.specs.Distance.{distance, s_deg}
use Rattle.math_surd.proofs.Distance.{distance_height, p_deg, distance_rise, distance_least, distance_most}
use Rattle.spec_arithmetic.specs.Field.{Ops}
use Rattle.spec_arithmetic.specs.Polynomials.{trim, deg, add, mul}
use Rattle.spec_definitions.specs.Walk.{p_before, s_before, degree_before}
use Rattle.spec_definitions.specs.Walk as lists
use Rattle.spec_bridge.specs.Model.{Model, Oks, series, series_nil}
use Rattle.spec_bridge.specs.Trim.{Trim, size_is}
use Rattle.spec_bridge.specs.Degree.{deg_size}
use Rattle.spec_bridge.specs.Arithmetic.{oks_nil, oks_add, trim_add, series_mul_add}
use Rattle.spec_laws.specs.Surd.{Surd, deg_length, series_one, trim_one, oks_one}
use Rattle.spec_laws.specs.Fraction.{fraction, Q_some}

module _ {A B : Type 0} {o : Ops A} {K : Field B} {M : Model o (F K)} {g : ℕ} {D d : List A} (h : Surd K M g D d) where
  open Series (F K) use {add as ◌+◌, mul as ◌*◌, neg as -◌, one as 𝟙}

  infixl 6 ◌+◌
  infixl 7 ◌*◌
  infix 8 -◌
  abbrev R[x] : CRing (Px K)
  R[x] = Series (F K)

  abbrev Q : ℕ → List A
  Q = lists.Q o D d

  abbrev a : ℕ → List A
  a = lists.a o D d

  -- p_{i−1} and s_{i−1}
  abbrev p : ℕ → List A
  p = p_before o D d

  abbrev s : ℕ → List A
  s = s_before o D d

  -- ---- the definitions, as they are read
  pub p_zero : p 0 ≡ o.one ∷ []
  unfolding p_before
  p_zero = refl

  pub p_one : p 1 ≡ d
  unfolding p_before
  p_one = refl

  pub p_suc : (i : ℕ) → p (suc (suc i)) ≡ add o (mul o (a (suc i)) (p (suc i))) (p i)
  unfolding p_before
  p_suc i = refl

  pub s_zero : s 0 ≡ []
  unfolding s_before
  s_zero = refl

  pub s_one : s 1 ≡ o.one ∷ []
  unfolding s_before
  s_one = refl

  pub s_suc : (i : ℕ) → s (suc (suc i)) ≡ add o (mul o (a (suc i)) (s (suc i))) (s i)
  unfolding s_before
  s_suc i = refl

  -- ---- no zero at the end, coefficients that stand for themselves
  pub p_trim : (i : ℕ) → Trim M (p i)
  p_trim zero = subst (Trim M) (sym p_zero) (trim_one K M)
  p_trim (suc zero) = subst (Trim M) (sym p_one) h.trimmed
  p_trim (suc (suc i)) = subst (Trim M) (sym (p_suc i)) (trim_add M _ _)

  pub p_oks : (i : ℕ) → Oks M (p i)
  p_oks zero = subst (Oks M) (sym p_zero) (oks_one K M)
  p_oks (suc zero) = subst (Oks M) (sym p_one) h.reduced
  p_oks (suc (suc i)) = subst (Oks M) (sym (p_suc i)) (oks_add M _ _)

  pub s_trim : (i : ℕ) → Trim M (s i)
  unfolding trim
  s_trim zero = subst (Trim M) (sym s_zero) refl
  s_trim (suc zero) = subst (Trim M) (sym s_one) (trim_one K M)
  s_trim (suc (suc i)) = subst (Trim M) (sym (s_suc i)) (trim_add M _ _)

  pub s_oks : (i : ℕ) → Oks M (s i)
  s_oks zero = subst (Oks M) (sym s_zero) (oks_nil M)
  s_oks (suc zero) = subst (Oks M) (sym s_one) (oks_one K M)
  s_oks (suc (suc i)) = subst (Oks M) (sym (s_suc i)) (oks_add M _ _)

  -- ---- as polynomials, which stand one place up
  pub p_series : (i : ℕ) → series M (p i) ≡ convergents.p K (fraction h) (suc i)
  p_series zero = ap (series M) p_zero ∙ series_one K M
  p_series (suc zero) = ap (series M) p_one ∙ ring_from R[x] (series M d ∷ series M (a 0) ∷ []) (times R[x] (- 𝟙) (a_first K (fraction h))) (search quote depth 40 fits 9999) tt
  p_series (suc (suc i)) = ap (series M) (p_suc i) ∙ series_mul_add M (a (suc i)) (p (suc i)) (p i) ∙ ap₂ (λ (x y : Px K). series M (a (suc i)) * x + y) (p_series (suc i)) (p_series i)

  pub s_series : (i : ℕ) → series M (s i) ≡ convergents.s K (fraction h) (suc i)
  s_series zero = ap (series M) s_zero ∙ series_nil M
  s_series (suc zero) = ap (series M) s_one ∙ series_one K M ∙ ring R[x] (series M (a 0) ∷ []) (search quote depth 40 fits 9999) tt
  s_series (suc (suc i)) = ap (series M) (s_suc i) ∙ series_mul_add M (a (suc i)) (s (suc i)) (s i) ∙ ap₂ (λ (x y : Px K). series M (a (suc i)) * x + y) (s_series (suc i)) (s_series i)

  -- ---- degrees
  pub degree_distance : (i : ℕ) → degree_before o D d i ≡ distance K (fraction h) i
  unfolding degree_before deg
  degree_distance i = let e = deg_size K M (p i) (deg_path K _ (sym (p_series i)) (p_deg K (fraction h) i)) in let k = size_is M (p i) in omega arith

  pub p_length : (i : ℕ) → length (p i) ≡ suc (degree_before o D d i)
  p_length i = deg_length K M (p i) _ (p_trim i) (deg_path K _ (sym (p_series i)) (p_deg K (fraction h) i)) ∙ ap suc (sym (degree_distance i))

  pub degree_zero : degree_before o D d 0 ≡ 0
  degree_zero = degree_distance 0

  -- deg p_i = deg p_{i−1} + (g + 1 − deg Q_i)
  pub degree_suc : (i : ℕ) → degree_before o D d (suc i) ≡ degree_before o D d i +ₙ (suc (suc g) -ₙ length (Q i))
  degree_suc i = let e = degree_distance i in let k = degree_distance (suc i) in let u = Q_some h i in omega arith

  pub degree_rise : (i j : ℕ) → i < j → degree_before o D d i < degree_before o D d j
  degree_rise i j u = let e = degree_distance i in let k = degree_distance j in let l = distance_rise K (fraction h) i j u in omega arith

  pub degree_least : (i : ℕ) → suc g +ₙ i ≤ degree_before o D d (suc i)
  degree_least i = let e = degree_distance (suc i) in let k = distance_least K (fraction h) i in omega arith

  pub degree_most : (i : ℕ) → degree_before o D d i ≤ i *ₙ suc g
  degree_most i = let e = degree_distance i in let k = distance_most K (fraction h) i in omega arith

  -- deg s_i = deg p_i − (g + 1)
  pub s_length : (i : ℕ) → length (s (suc i)) +ₙ suc g ≡ suc (degree_before o D d (suc i))
  s_length i =
      let e = deg_length K M (s (suc i)) _ (s_trim (suc i)) (deg_path K _ (sym (s_series (suc i))) (s_deg K (fraction h) i)) in
      let k = degree_distance (suc i) in
      let l = distance_height K (fraction h) i in
      omega arith
