-- Sentence 7 over the field of q elements: the square of a polynomial of degree 1 or more divides D exactly
-- where the gcd of D and D' is not constant: the test for square factors over a perfect field, with the square
-- factor carried from lists to polynomials and back.
use Rattle.std.specs.Prelude.{ℕ, suc, ◌-◌ as ◌-ₙ◌, ◌≤◌, ◌≡◌, ◌≢◌, List, length, get_or}
use Rattle.std.proofs.Common.{arith, sym, ap, ap₂, ◌∙◌, subst, ⊎_elim}
use Rattle.std.proofs.Math.Path.{fun_ext}
use Rattle.std.proofs.Math.Logic.Iff
use Rattle.math_ring.specs.Order.{le_or_lt}
use Rattle.math_ring.specs.Series.{conv}
use Rattle.math_algebra.specs.Field.{Field}
use Rattle.math_algebra.specs.Polynomial.{F, Px, Deg, deg_path, deg_not_zero, monic_deg}
use Rattle.math_algebra.specs.Gcd.{IsGcd, gcd_zero}
use Rattle.math_algebra.specs.Derivative.{derivative as ∂}
use Rattle.math_algebra.specs.Squarefree.{SquareFactor, square_gcd, gcd_square}
use Rattle.spec_arithmetic.specs.Field.{FieldName, ops}
use Rattle.spec_arithmetic.specs.Polynomials.{trim, size, mul, gcd, derivative}
use Rattle.spec_definitions.specs.Ticket.{not_squarefree}
use Rattle.spec_bridge.specs.Model.{Model, series}
use Rattle.spec_bridge.specs.Trim.{below_length, length_trim, size_is}
use Rattle.spec_bridge.specs.Arithmetic.{series_mul}
use Rattle.spec_bridge.specs.Degree.{series_deg, series_zero, series_monic_of, deg_size}
use Rattle.spec_bridge.specs.Coefficients.{coefficients, series_coefficients}
use Rattle.spec_bridge.specs.Derivative.{series_derivative}
use Rattle.spec_bridge.specs.Euclid.{gcd_is}
use Rattle.spec_fields.specs.Named.{Arithmetic, same_reading_in, reading_same_in, φ_one_in}
use Rattle.spec_sentences.specs.Sentences.{SquareDivides}
use Rattle.spec_sentences.specs.Tests.{Tests}
use Rattle.spec_sentences.proofs.Tests.{tests_eq, tests_not}

module _ (f : FieldName) (A : Arithmetic f) where
  abbrev K : Field A.Elements
  K = A.K

  abbrev M : Model (ops f) (F K)
  M = A.M

  -- ---- a square that divides D, on lists and on polynomials
  pub square_factor : (D : List ℕ) → SquareDivides f D → SquareFactor K (series M D)
  square_factor D s = record {
    factor = series M s.h;
    size = length (trim (ops f) s.h) -ₙ 1;
    some = omega (arith, size_is M s.h, s.degree);
    deg = series_deg K M s.h (omega (arith, size_is M s.h, s.degree));
    divides = record {
      by = series M s.e;
      size = length s.e;
      low = below_length M s.e;
      is = fun_ext (λ i. reading_same_in A _ _ (s.product i)) ∙ series_mul M (mul (ops f) s.h s.h) s.e ∙ ap (λ l. conv (F K) l (series M s.e)) (series_mul M s.h s.h);
    };
  }

  pub square_lists : (D : List ℕ) → SquareFactor K (series M D) → SquareDivides f D
  square_lists D s = record {
    h = h;
    e = e;
    degree = omega (arith, s.some, size_is M h, deg_size K M h (deg_path K s.size (sym h_is) s.deg));
    product = λ i. same_reading_in A _ _ (ap (λ (u : Px K). u i) same);
  }
    where
      h : List ℕ
      h = coefficients M A.onto s.factor (suc s.size)

      e : List ℕ
      e = coefficients M A.onto s.divides.by s.divides.size

      h_is : series M h ≡ s.factor
      h_is = series_coefficients M A.onto s.factor (suc s.size) s.deg.low

      e_is : series M e ≡ s.divides.by
      e_is = series_coefficients M A.onto s.divides.by s.divides.size s.divides.low

      same : series M D ≡ series M (mul (ops f) (mul (ops f) h h) e)
      same = s.divides.is ∙ sym (series_mul M (mul (ops f) h h) e ∙ ap₂ (conv (F K)) (series_mul M h h ∙ ap (λ l. conv (F K) l l) h_is) e_is)

  -- ---- the gcd of D and D' is not constant
  pub tests_square : (D : List ℕ) (n : ℕ) → length D ≤ suc n → get_or D n 0 ≡ 1 → Tests (not_squarefree f D) (SquareDivides f D)
  unfolding not_squarefree
  tests_square D n long lead = Iff.trans (tests_not (tests_eq (size (ops f) G) 1)) (λ h. square_lists D (some h), λ s e. constant (square_gcd K d is (square_factor D s)) e)
    where
      d : Deg K (series M D) n
      d = monic_deg K (series_monic_of K M D n (omega (arith, length_trim M D)) (ap M.φ lead ∙ φ_one_in A))

      G : List ℕ
      G = gcd (ops f) D (derivative (ops f) D)

      is : IsGcd K (series M D) (∂ (F K) (series M D)) (series M G)
      is = subst (λ a. IsGcd K (series M D) a (series M G)) (series_derivative M D) (gcd_is K M A.I D (derivative (ops f) D))

      constant : (m : ℕ) × (1 ≤ m) × Deg K (series M G) m → size (ops f) G ≡ 1 → ⊥
      constant (m, l, t) e = omega (arith, size_is M G, deg_size K M G t)

      some : size (ops f) G ≢ 1 → SquareFactor K (series M D)
      some h = ⊎_elim (λ l. gcd_square K A.perfect is (⊎_elim (λ k. omega arith) (λ k. absurd (h (size_is M G ∙ omega arith))) (le_or_lt 2 (length (trim (ops f) G)))) (series_deg K M G l)) (λ l. absurd (deg_not_zero K d (gcd_zero K is (series_zero K M G (omega arith))).0)) (le_or_lt 1 (length (trim (ops f) G)))
