-- The derivative of a list is that of its polynomial; it is trimmed, its coefficients stand for themselves,
-- and it is shorter.
use Prim.Native.Nat.{ℕ, zero, suc, ◌+◌ as ◌+ₙ◌, ◌-◌ as ◌-ₙ◌, ◌≤◌}
use Rattle.std.proofs.Common.{add-zero, add-suc, suc-add, ◌∙◌}
use native.Mathlib.Omega.{arith}
use Rattle.std.specs.Prelude.{◌≡◌, length}
use Rattle.std.proofs.Math.Path.{refl, sym, ap, fun_ext}
use mathlib.Core.List.{List, [], ◌∷◌}
use Rattle.math_ring.specs.Ring.{CRing, mul_zer, zer_mul}
use Rattle.math_ring.specs.Identity.{ring, quote}
use Rattle.math_ring.specs.Series.{S}
use Rattle.math_algebra.specs.Multiple.{natural}
use Rattle.math_algebra.specs.Derivative.{derivative as derivative_of, derivative_at}
use Rattle.spec_arithmetic.specs.Field.{Ops}
use Rattle.spec_arithmetic.specs.Polynomials.{at, trim, times, times_from, derivative}
use Rattle.spec_bridge.specs.Model.{Model, Oks, series}
use Rattle.spec_bridge.specs.Trim.{Trim, trim_idem, oks_trim, series_trim, below_size, length_le}

module _ {A B : Type 0} {o : Ops A} {R : CRing B} (M : Model o R) where
  open M use {φ, φ_zer, φ_add, Ok, ok_zer, ok_add}

  pub φ_times : (k : ℕ) (a : A) → φ (times o k a) ≡ R.mul (natural R k) (φ a)
  unfolding times natural
  φ_times zero a = φ_zer ∙ sym (zer_mul R (φ a))
  φ_times (suc k) a = φ_add _ _ ∙ ap (R.add (φ a)) (φ_times k a) ∙ ring R (natural R k ∷ φ a ∷ []) (search quote depth 40 fits 9999) tt

  pub ok_times : (k : ℕ) (a : A) → Ok (times o k a)
  unfolding times
  ok_times zero a = ok_zer
  ok_times (suc k) a = ok_add _ _

  times_at : (k : ℕ) (p : List A) (i : ℕ) → φ (at o (times_from o k p) i) ≡ R.mul (natural R (k +ₙ i)) (φ (at o p i))
  unfolding times_from
  times_at k [] i = φ_zer ∙ sym (ap (R.mul (natural R (k +ₙ i))) φ_zer ∙ mul_zer R (natural R (k +ₙ i)))
  times_at k (a ∷ p) zero = φ_times k a ∙ ap (λ (n : ℕ). R.mul (natural R n) (φ a)) (sym (add-zero k))
  times_at k (a ∷ p) (suc i) = times_at (suc k) p i ∙ ap (λ (n : ℕ). R.mul (natural R n) (φ (at o p i))) (suc-add k i ∙ sym (add-suc k i))

  oks_times : (k : ℕ) (p : List A) → Oks M (times_from o k p)
  unfolding times_from
  oks_times k [] i = ok_zer
  oks_times k (a ∷ p) zero = ok_times k a
  oks_times k (a ∷ p) (suc i) = oks_times (suc k) p i

  pub series_derivative : (p : List A) → series M (derivative o p) ≡ derivative_of R (series M p)
  unfolding derivative
  series_derivative [] = fun_ext (λ i. φ_zer ∙ sym (derivative_at R (series M []) i ∙ ap (R.mul _) φ_zer ∙ mul_zer R _))
  series_derivative (a ∷ p) = series_trim M (times_from o 1 p) ∙ fun_ext (λ i. times_at 1 p i ∙ ap (λ (n : ℕ). R.mul (natural R n) (φ (at o p i))) (let e : 1 +ₙ i ≡ suc i = omega arith in e) ∙ sym (derivative_at R (series M (a ∷ p)) i))

  pub trim_derivative : (p : List A) → Trim M (derivative o p)
  unfolding derivative trim
  trim_derivative [] = refl
  trim_derivative (a ∷ p) = trim_idem M (times_from o 1 p)

  pub oks_derivative : (p : List A) → Oks M (derivative o p)
  unfolding derivative
  oks_derivative [] i = ok_zer
  oks_derivative (a ∷ p) i = oks_trim M (times_from o 1 p) (oks_times 1 p) i

  pub length_derivative : (p : List A) → length (derivative o p) ≤ length (trim o p) -ₙ 1
  length_derivative p = length_le M _ _ (trim_derivative p) (λ i h. ap (λ (f : S R). f i) (series_derivative p) ∙ derivative_at R (series M p) i ∙ ap (R.mul _) (below_size M p (suc i) (omega arith)) ∙ mul_zer R _)
