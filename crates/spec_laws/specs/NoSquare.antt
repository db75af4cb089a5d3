-- A monic D of degree 2n, n ≥ 1, whose gcd with its derivative is constant is not a square: of D = f² the gcd
-- would be a multiple of f.
use Rattle.std.specs.Prelude.{ℕ, suc, ◌+◌ as ◌+ₙ◌, ◌≤◌, ◌<◌, ◌≡◌, ◌⊎◌, List, [], ◌∷◌}
use Rattle.std.proofs.Common.{arith, ◌∙◌, subst, inl, inr}
use Rattle.math_ring.specs.Identity.{ring, ring_from, times, quote}
use Rattle.math_ring.specs.Series.{Series}
use Rattle.math_algebra.specs.Field.{Field}
use Rattle.math_algebra.specs.Polynomial.{F, Px, Deg, Monic, degree, deg_mul, deg_path, deg_unique, deg_not_zero, monic_deg, one_low}
use Rattle.math_algebra.specs.Gcd.{IsGcd}
use Rattle.math_algebra.specs.Squarefree.{SquareFactor, square_gcd}
use Rattle.math_surd.specs.Root.{NoSquare}
use Rattle.spec_arithmetic.specs.Field.{Ops}
use Rattle.spec_arithmetic.specs.Polynomials.{size, gcd, derivative}
use Rattle.spec_bridge.specs.Model.{Model, Inverts, series}
use Rattle.spec_bridge.specs.Trim.{size_is}
use Rattle.spec_bridge.specs.Degree.{deg_size}
use Rattle.spec_bridge.specs.Derivative.{series_derivative}
use Rattle.spec_bridge.specs.Euclid.{gcd_is}

module _ {A B : Type 0} {o : Ops A} (K : Field B) (M : Model o (F K)) (I : Inverts M) (D : List A) (n : ℕ) (monic : Monic K (series M D) (suc n +ₙ suc n)) where
  open Series (F K) use {zer as 𝟘, one as 𝟙}

  pub no_square : size o (gcd o D (derivative o D)) ≡ 1 → NoSquare K (series M D)
  no_square constant f k low e = go (degree K k f low)
    where
      G : List A
      G = gcd o D (derivative o D)

      go : (f ≡ 𝟘) ⊎ ((m : ℕ) × (m < k) × Deg K f m) → ⊥
      go (inl z) = deg_not_zero K (monic_deg K monic) (e ∙ ring_from (Series (F K)) (f ∷ []) (times (Series (F K)) f z) (search quote depth 40 fits 9999) tt)
      go (inr t) = let s = deg_size K M G seen.2 in let h = size_is M G in let l = seen.1 in omega arith
        where
          half : t.0 +ₙ t.0 ≡ suc n +ₙ suc n
          half = deg_unique K (deg_mul K f f t.0 t.0 t.2 t.2) (deg_path K _ e (monic_deg K monic))

          factor : SquareFactor K (series M D)
          factor = record {
            factor = f;
            size = t.0;
            some = omega (arith, half);
            deg = t.2;
            divides = record { by = 𝟙; size = 1; low = one_low K; is = e ∙ ring (Series (F K)) (f ∷ []) (search quote depth 40 fits 9999) tt };
          }

          seen : (m : ℕ) × (1 ≤ m) × Deg K (series M G) m
          seen = square_gcd K (monic_deg K monic) (subst (λ (h : Px K). IsGcd K (series M D) h (series M G)) (series_derivative M D) (gcd_is K M I D (derivative o D))) factor
