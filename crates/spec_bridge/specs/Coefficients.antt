-- Back from polynomials to lists, where every element of the ring is that of a coefficient: each polynomial
-- has a list.
use Prim.Native.Nat.{ℕ, zero, suc, zero-le, suc-le-suc}
use Rattle.std.specs.Prelude.{◌≡◌, List, [], ◌∷◌, length}
use Rattle.std.proofs.Math.Path.{refl, sym, ap, fun_ext}
use Rattle.std.proofs.Common.{◌∙◌}
use Rattle.math_ring.specs.Ring.{CRing}
use Rattle.math_ring.specs.Series.{S, tail}
use Rattle.math_ring.specs.Degree.{Below}
use Rattle.spec_arithmetic.specs.Field.{Ops}
use Rattle.spec_bridge.specs.Model.{Model, Oks, series}

-- each element b of the ring is that of the coefficient `back b`
pub record Onto {A B : Type 0} {o : Ops A} {R : CRing B} (M : Model o R) : Type 0 where
  pub back : B → A
  pub φ_back : (b : B) → M.φ (back b) ≡ b
  pub ok_back : (b : B) → M.Ok (back b)

module _ {A B : Type 0} {o : Ops A} {R : CRing B} (M : Model o R) (T : Onto M) where
  -- the first n coefficients of f
  unfoldable pub coefficients : S R → ℕ → List A
  coefficients f zero = []
  coefficients f (suc n) = T.back (f 0) ∷ coefficients (tail R f) n

  coefficients_at : (f : S R) (n : ℕ) → Below R f n → (i : ℕ) → series M (coefficients f n) i ≡ f i
  unfolding coefficients
  coefficients_at f zero h i = M.φ_zer ∙ sym (h i zero-le)
  coefficients_at f (suc n) h zero = T.φ_back (f 0)
  coefficients_at f (suc n) h (suc i) = coefficients_at (tail R f) n (λ j p. h (suc j) (suc-le-suc p)) i

  pub series_coefficients : (f : S R) (n : ℕ) → Below R f n → series M (coefficients f n) ≡ f
  series_coefficients f n h = fun_ext (coefficients_at f n h)

  pub length_coefficients : (f : S R) (n : ℕ) → length (coefficients f n) ≡ n
  unfolding coefficients
  length_coefficients f zero = refl
  length_coefficients f (suc n) = ap suc (length_coefficients (tail R f) n)

  -- each coefficient of it stands for itself
  pub oks_coefficients : (f : S R) (n : ℕ) → Oks M (coefficients f n)
  unfolding coefficients
  oks_coefficients f zero i = M.ok_zer
  oks_coefficients f (suc n) zero = T.ok_back (f 0)
  oks_coefficients f (suc n) (suc i) = oks_coefficients (tail R f) n i
