-- How long the results are: a bound on the degree gives a bound on the length, as no result has a zero at its
-- end.
use Rattle.std.specs.Prelude.{ℕ, suc, ◌+◌ as ◌+ₙ◌, ◌≤◌, ◌≡◌, List, length}
use Rattle.std.proofs.Common.{arith, sym, ◌∙◌, subst}
use Rattle.std.proofs.Math.Path.{ap}
use Rattle.math_ring.specs.Ring.{CRing, mul_zer, neg_zer}
use Rattle.math_ring.specs.Series.{S, neg_s}
use Rattle.math_ring.specs.Degree.{Below, below_add, below_conv, conv_none}
use Rattle.spec_arithmetic.specs.Field.{Ops}
use Rattle.spec_arithmetic.specs.Polynomials.{trim, add, sub, scale, mul}
use Rattle.spec_bridge.specs.Model.{Model, series}
use Rattle.spec_bridge.specs.Trim.{below_size, length_le, length_trim}
use Rattle.spec_bridge.specs.Arithmetic.{at_scale, trim_add, trim_sub, trim_scale, trim_mul, series_add, series_sub, series_mul}

module _ {A B : Type 0} {o : Ops A} {R : CRing B} (M : Model o R) where
  open M use {φ, φ_mul}

  by_series : (l : List A) (f : S R) (n : ℕ) → trim o l ≡ l → series M l ≡ f → Below R f n → length l ≤ n
  by_series l f n t e h = length_le M l n t (subst (λ (g : S R). Below R g n) (sym e) h)

  low : (p : List A) (n : ℕ) → length (trim o p) ≤ n → Below R (series M p) n
  low p n h i l = below_size M p i (omega arith)

  pub length_add : (p q : List A) (n : ℕ) → length (trim o p) ≤ n → length (trim o q) ≤ n → length (add o p q) ≤ n
  length_add p q n h k = by_series (add o p q) _ n (trim_add M p q) (series_add M p q) (below_add R (series M p) (series M q) n (low p n h) (low q n k))

  pub length_sub : (p q : List A) (n : ℕ) → length (trim o p) ≤ n → length (trim o q) ≤ n → length (sub o p q) ≤ n
  unfolding neg_s
  length_sub p q n h k = by_series (sub o p q) _ n (trim_sub M p q) (series_sub M p q) (below_add R (series M p) (neg_s R (series M q)) n (low p n h) (λ i l. ap R.neg (low q n k i l) ∙ neg_zer R))

  pub length_scale : (c : A) (p : List A) → length (scale o c p) ≤ length (trim o p)
  length_scale c p = length_le M _ _ (trim_scale M c p) (λ i l. ap φ (at_scale M c p i) ∙ φ_mul _ _ ∙ ap (R.mul (φ c)) (below_size M p i l) ∙ mul_zer R (φ c))

  pub length_multiple : (c : A) (p : List A) → length (scale o c p) ≤ length p
  length_multiple c p = let e = length_scale c p in let k = length_trim M p in omega arith

  -- one less than the sum of both
  pub length_mul : (p q : List A) (n : ℕ) → length (trim o p) +ₙ length (trim o q) ≤ suc n → length (mul o p q) ≤ n
  length_mul p q n h = by_series (mul o p q) _ n (trim_mul M p q) (series_mul M p q) (λ i l. below_conv R (length (trim o p)) (length (trim o q)) (series M p) (series M q) (below_size M p) (below_size M q) i (omega arith))

  pub length_mul_none : (p q : List A) → length (trim o p) ≡ 0 → length (mul o p q) ≡ 0
  length_mul_none p q h = let k : length (mul o p q) ≤ 0 = by_series (mul o p q) _ 0 (trim_mul M p q) (series_mul M p q) (λ i l. conv_none R (series M p) (series M q) (low p 0 (omega arith)) i) in omega arith
