-- Lists p, s of any numbers with s ≠ 0 and p² − D·s² a nonzero constant are solutions over the field: so deg
-- p is at least that of the unit, which is one of them, and of the same degree are only its constant
-- multiples, up to the sign of s. While no Q_1 .. Q_b is constant, deg p is above deg p_{b−1}.
use Rattle.std.specs.Prelude.{ℕ, ◌+◌ as ◌+ₙ◌, ◌-◌ as ◌-ₙ◌, ◌≤◌, ◌<◌, ◌≡◌, List, length}
use Rattle.std.proofs.Common.{arith, sym, ap, ◌∙◌, subst}
use Rattle.math_algebra.specs.Field.{Field}
use Rattle.math_algebra.specs.Polynomial.{F, Deg, low_up, low_one}
use Rattle.math_surd.specs.Units.{Scaled}
use Rattle.math_surd.specs.LeastDegree.{Solution}
use Rattle.math_surd.proofs.LeastDegree as least
use Rattle.spec_arithmetic.specs.Field.{Ops}
use Rattle.spec_arithmetic.specs.Polynomials.{trim, size, deg}
use Rattle.spec_definitions.specs.Walk.{degree_before}
use Rattle.spec_definitions.specs.Walk as lists
use Rattle.spec_bridge.specs.Model.{Model, series}
use Rattle.spec_bridge.specs.Trim.{below_length, size_is}
use Rattle.spec_bridge.specs.Degree.{deg_size, deg_is, series_deg, zero_size}
use Rattle.spec_laws.specs.Surd.{Surd}
use Rattle.spec_laws.specs.Fraction.{fraction, Q_some}
use Rattle.spec_laws.specs.Convergents.{degree_distance}
use Rattle.spec_laws.specs.Signs.{norm_of, series_norm}
use Rattle.spec_laws.specs.QuasiPeriod.{Quasi, NoQuasi, fraction_quasi_period}

module _ {A B : Type 0} {o : Ops A} {K : Field B} {M : Model o (F K)} {g : ℕ} {D d : List A} (h : Surd K M g D d) where
  abbrev Q : ℕ → List A
  Q = lists.Q o D d

  -- ---- solutions
  module _ (p s : List A) (some : size o s ≡ 0 → ⊥) (constant : size o (norm_of o D p s) ≡ 1) where
    norm_deg : Deg K (series M (norm_of o D p s)) 0
    norm_deg = let e = size_is M (norm_of o D p s) in subst (Deg K (series M (norm_of o D p s))) (let k : length (trim o (norm_of o D p s)) -ₙ 1 ≡ 0 = omega arith in k) (series_deg K M (norm_of o D p s) (omega arith))

    pub solution : Solution K (series M D) (series M p) (series M s)
    solution = record {
      size = length p +ₙ length s;
      X_low = low_up K (series M p) (omega arith) (below_length M p);
      Y_low = low_up K (series M s) (omega arith) (below_length M s);
      Y_not_zero = λ z. some (size_is M s ∙ ap length (zero_size K M s z));
      c = series M (norm_of o D p s) 0;
      c_not_zero = norm_deg.top;
      norm = sym (series_norm K M D p s) ∙ low_one K _ norm_deg.low;
    }

    -- the degree of p's polynomial is that of the list
    deg_of_series : (n : ℕ) → Deg K (series M p) n → deg o p ≡ n
    deg_of_series n t = let e = deg_size K M p t in let k = deg_is K M p in omega arith

    -- ---- no Q up to b is constant
    pub degree_above : (b : ℕ) → NoQuasi o D d b → degree_before o D d b < deg o p
    degree_above b none =
        let r = least.spent K (fraction h) b (λ j l u e. none j l u (let k = Q_some h j in omega arith)) solution in
        let e = degree_distance h b in
        let k = deg_of_series r.0 r.1 in
        let l = r.2 in
        omega arith

    module _ {b m : ℕ} (first : Quasi o D d b m) where
      pub degree_at_least : degree_before o D d m ≤ deg o p
      degree_at_least =
          let r = least.found K (fraction h) m (fraction_quasi_period h first) solution in
          let e = degree_distance h m in
          let k = deg_of_series r.0 r.1 in
          let l = r.2 in
          omega arith

      pub only : deg o p ≡ degree_before o D d m → Scaled K (fraction h) m (series M p) (series M s)
      only e = least.only K (fraction h) m (fraction_quasi_period h first) solution (let r = least.found K (fraction h) m (fraction_quasi_period h first) solution in subst (Deg K (series M p)) (sym (deg_of_series r.0 r.1) ∙ e ∙ degree_distance h m) r.1)
