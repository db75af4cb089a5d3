-- The proofs of specs/Duplication.
use Prim.Native.Nat.{ℕ, zero, suc, ◌+◌, ◌*◌, ◌-◌, ◌≤◌}
use native.Mathlib.Omega.{arith}
use Rattle.std.specs.Prelude.{◌≡◌, List, length}
use Rattle.std.proofs.Math.Path.{refl, ap}
use Rattle.std.proofs.Common.{◌∙◌, subst}
use Rattle.std.proofs.Math.Logic.{inl, inr}
use Rattle.std.proofs.Math.Option.{Option, none, some}
use Rattle.math_algebra.specs.Field.{Field}
use Rattle.math_algebra.specs.Polynomial.{F}
use Rattle.math_surd.specs.Distance.{distance, height}
use Rattle.math_surd.specs.QuasiPeriod.{QuasiPeriod, NoneConstant}
use Rattle.math_symmetry.proofs.Half.{half, duplication, budget}
use Rattle.spec_arithmetic.specs.Field.{Ops}
use Rattle.spec_arithmetic.specs.Polynomials.{deg}
use Rattle.spec_definitions.specs.Walk.{Q, degree_before}
use Rattle.spec_bridge.specs.Model.{Model}
use Rattle.spec_laws.specs.Surd.{Surd}
use Rattle.spec_laws.specs.Fraction.{fraction, Q_some, Q_length}
use Rattle.spec_laws.specs.Walk.{deg_d, deg_Q, deg_a}
use Rattle.spec_laws.specs.Convergents.{degree_distance}
use Rattle.spec_laws.specs.QuasiPeriod.{Quasi, NoQuasi}
use Rattle.spec_half.specs.Half.{Middle, by_q, by_p, middle_period, first_middle, degrees_to, middle_regulator}
use Rattle.spec_half.specs.Middles.{Searched}
use Rattle.spec_half.proofs.Middles.{first_middle_searched}
use Rattle.spec_half.specs.Duplication as defs

module _ {A B : Type 0} {o : Ops A} {K : Field B} {M : Model o (F K)} {g : ℕ} {D d : List A} (s : Surd K M g D d) where
  pub degrees_height : (i : ℕ) → degrees_to o D d i ≡ height K (fraction s) i
  unfolding degrees_to
  degrees_height zero = refl
  degrees_height (suc i) = let e = degrees_height i in omega (arith, deg_a s (suc i), Q_some s (suc i), Q_length s (suc i))

  -- ---- the regulator by the duplication rules
  duplicated_Q : (i : ℕ) → distance K (fraction s) (suc (i + i)) ≡ height K (fraction s) i + height K (fraction s) i + suc g → middle_regulator o D d (by_q i) ≡ degree_before o D d (middle_period (by_q i))
  unfolding middle_regulator middle_period
  duplicated_Q i h =
      let n : suc (i + i) ≡ 2 * i + 1 = omega arith in
      let r : 2 * degrees_to o D d i + deg o d ≡ degree_before o D d (suc (i + i)) = omega (arith, degrees_height i, deg_d s, degree_distance s (suc (i + i))) in
      r ∙ ap (degree_before o D d) n

  duplicated_P : (i : ℕ) → distance K (fraction s) (suc (suc (i + i))) ≡ height K (fraction s) (suc i) + height K (fraction s) (suc i) + (length (Q o D d (suc i)) - 1) → middle_regulator o D d (by_p i) ≡ degree_before o D d (middle_period (by_p i))
  unfolding middle_regulator middle_period
  duplicated_P i h =
      let n : suc (suc (i + i)) ≡ 2 * i + 2 = omega arith in
      let r : 2 * degrees_to o D d (suc i) + deg o (Q o D d (suc i)) ≡ degree_before o D d (suc (suc (i + i))) = omega (arith, degrees_height (suc i), deg_Q s (suc i), degree_distance s (suc (suc (i + i)))) in
      r ∙ ap (degree_before o D d) n

  -- ---- constant Q, by their lengths
  none_of : (n : ℕ) → NoneConstant K (fraction s) n → NoQuasi o D d n
  none_of n free j p l e = free j p l (omega arith)

  quasi_within : (n m : ℕ) → m ≤ n → QuasiPeriod K (fraction s) m → Quasi o D d n m
  quasi_within n m l first = record {
    positive = first.positive;
    within = l;
    constant = let c = first.constant in let k = Q_some s m in omega arith;
    least = λ j p u e. first.least j p u (omega arith);
  }

  abbrev Tells : (b : ℕ) → (x : Middle) → Type 0
  Tells = defs.Tells s

  abbrev HalfSays : ℕ → Option Middle → Type 0
  HalfSays = defs.HalfSays s

  pub half_says : (b : ℕ) → HalfSays b (first_middle o D d b 0)
  unfolding middle_period
  half_says b = go (first_middle o D d b 0) (first_middle_searched s b)
    where
      go : (x : Option Middle) → Searched s b x → HalfSays b x
      go none h =
          let e : b + b ≡ 2 * b = omega arith in
          none_of (2 * b) (subst (NoneConstant K (fraction s)) e ((budget K (fraction s) b).none_constant h))
      go (some (by_q i)) h =
          let first = (half K (fraction s)).period i (2 * i + 1) (record { before = h.1; here = inl (h.2, omega arith) }) in
          record { period = quasi_within (2 * b) (2 * i + 1) (omega (arith, h.0)) first; regulator = duplicated_Q i ((duplication K (fraction s)).sum_Q i h.2) }
      go (some (by_p i)) h =
          let first = (half K (fraction s)).period i (2 * i + 2) (record { before = h.1; here = inr (h.2, h.3, omega arith) }) in
          record { period = quasi_within (2 * b) (2 * i + 2) (omega (arith, h.0)) first; regulator = duplicated_P i ((duplication K (fraction s)).sum_P i h.3) }
