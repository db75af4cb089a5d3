-- The definitions' walk, read as polynomials, is the continued fraction of √D: its divisions are those from
-- which the walk of states is built.
use Rattle.std.specs.Prelude.{ℕ, suc, ◌+◌ as ◌+ₙ◌, ◌-◌ as ◌-ₙ◌, ◌≤◌, ◌<◌, ◌≡◌, List, length}
use native.Mathlib.Omega.{arith}
use Rattle.std.proofs.Common.{sym, ap, ◌∙◌}
use Rattle.std.proofs.Math.Path.{subst}
use Rattle.math_ring.specs.Series.{Series}
use Rattle.math_algebra.specs.Field.{Field}
use Rattle.math_algebra.specs.Polynomial.{F, Px, ◌≺◌ as Low, Deg, low_up}
use Rattle.math_surd.specs.Root.{Root, root_from}
use Rattle.math_surd.specs.Walk.{Walk, prior}
use Rattle.math_surd.specs.WalkOf.{Computed, walk_of}
use Rattle.spec_arithmetic.specs.Field.{Ops}
use Rattle.spec_arithmetic.specs.Polynomials.{add, mul, rem}
use Rattle.spec_definitions.specs.Walk as lists
use Rattle.spec_laws.specs.Surd.{Surd, deg_length, series_one, Q_zero, P_zero, a_is, P_suc, Q_suc, Q_trim}
use Rattle.spec_laws.specs.Surd as surd
use Rattle.spec_bridge.specs.Model.{Model, series, series_nil}
use Rattle.spec_bridge.specs.Trim.{below_length}
use Rattle.spec_bridge.specs.Degree.{deg_size}
use Rattle.spec_bridge.specs.Arithmetic.{series_add, series_sub, series_mul}
use Rattle.spec_bridge.specs.Division.{series_quo_rem, rem_below}

module _ {A B : Type 0} {o : Ops A} {K : Field B} {M : Model o (F K)} {g : ℕ} {D d : List A} (s : Surd K M g D d) where
  open Series (F K) use {add as ◌+◌, mul as ◌*◌, neg as -◌, zer as 𝟘, one as 𝟙}

  infixl 6 ◌+◌ ◌-◌
  infixl 7 ◌*◌
  infix 8 -◌
  abbrev ◌-◌ : Px K → Px K → Px K
  a - b = a + (- b)

  abbrev Q : ℕ → List A
  Q = lists.Q o D d

  abbrev P : ℕ → List A
  P = lists.P o D d

  abbrev a : ℕ → List A
  a = lists.a o D d

  abbrev r : ℕ → List A
  r = surd.r s

  abbrev rest : ℕ → List A
  rest = surd.rest s

  -- ---- as polynomials
  abbrev pub root : Root K g (series M D)
  root = root_from K s.is_root

  -- the remainder of D − P² by Q, which is 0 as will be shown
  abbrev t : ℕ → List A
  t i = rem o (rest i) (Q i)

  rest_series : (i : ℕ) → series M (rest i) ≡ series M D - series M (P (suc i)) * series M (P (suc i))
  rest_series i = series_sub M D (mul o (P (suc i)) (P (suc i))) ∙ ap (λ (f : Px K). series M D - f) (series_mul M (P (suc i)) (P (suc i)))

  pub Q_first : series M (Q 0) ≡ 𝟙
  Q_first = ap (series M) (Q_zero s) ∙ series_one K M

  pub P_first : series M (P 0) ≡ 𝟘
  P_first = ap (series M) (P_zero s) ∙ series_nil M

  pub divide : (i : ℕ) → series M (P i) + series M d ≡ series M (a i) * series M (Q i) + series M (r i)
  divide i = sym (series_add M (P i) d) ∙ series_quo_rem M (add o (P i) d) (Q i) ∙ ap (λ (l : List A). series M l * series M (Q i) + series M (r i)) (sym (a_is s i))

  pub P_step : (i : ℕ) → series M (P (suc i)) ≡ series M (a i) * series M (Q i) - series M (P i)
  P_step i = ap (series M) (P_suc s i) ∙ series_sub M (mul o (a i) (Q i)) (P i) ∙ ap (λ (f : Px K). f - series M (P i)) (series_mul M (a i) (Q i))

  pub rem_low : (f h : List A) (n : ℕ) → Deg K (series M h) n → Low K (series M (rem o f h)) n
  rem_low f h n u i k = let e = deg_size K M h u in rem_below M s.inverts f h (omega arith) i (omega arith)

  abbrev computed : Computed K root
  computed = record {
    Q = λ i. series M (Q i);
    P = λ i. series M (P i);
    a = λ i. series M (a i);
    r = λ i. series M (r i);
    t = λ i. series M (t i);
    size = λ i. length (Q i) +ₙ length (a i);
    Q_low = λ i. low_up K (series M (Q i)) (omega arith) (below_length M (Q i));
    a_low = λ i. low_up K (series M (a i)) (omega arith) (below_length M (a i));
    Q_first = Q_first;
    P_first = P_first;
    divide = λ i n u. divide i;
    r_low = λ i n u. rem_low (add o (P i) d) (Q i) n u;
    P_step = P_step;
    Q_divide = λ i n u. sym (rest_series i) ∙ series_quo_rem M (rest i) (Q i) ∙ ap (λ (l : List A). series M l * series M (Q i) + series M (t i)) (sym (Q_suc s i));
    t_low = λ i n u. rem_low (rest i) (Q i) n u;
  }

  -- ---- the walk of states
  unfoldable of_computed : Walk K root
  of_computed = walk_of K s.no_square computed

  -- the degree of Q is its length less 1
  κ_is : (i : ℕ) → of_computed.κ i ≡ length (Q i) -ₙ 1
  unfolding of_computed walk_of
  κ_is i = let e = deg_length K M (Q i) _ (Q_trim s i) (of_computed.Q_deg i) in omega arith

  pub Q_step : (i : ℕ) → series M (Q (suc i)) ≡ prior K (series M D) (λ i. series M (Q i)) i + series M (a i) * (series M (P i) - series M (P (suc i)))
  unfolding of_computed walk_of
  Q_step i = of_computed.Q_step i

  pub Q_deg : (i : ℕ) → Deg K (series M (Q i)) (length (Q i) -ₙ 1)
  unfolding of_computed walk_of
  Q_deg i = subst (Deg K (series M (Q i))) (κ_is i) (of_computed.Q_deg i)

  pub Q_some : (i : ℕ) → 0 < length (Q i)
  Q_some i = let e = deg_length K M (Q i) _ (Q_trim s i) (Q_deg i) in omega arith

  pub Q_length : (i : ℕ) → length (Q i) ≤ suc g
  Q_length i = let e = κ_is i in let h = of_computed.reduced i in omega arith

  pub near : (i : ℕ) → Low K (series M (P (suc i)) - series M d) (length (Q (suc i)) -ₙ 1)
  unfolding of_computed walk_of
  near i = subst (Low K (series M (P (suc i)) - series M d)) (κ_is (suc i)) (of_computed.near i)

  abbrev pub fraction : Walk K root
  fraction = record {
    Q = λ i. series M (Q i);
    P = λ i. series M (P i);
    a = λ i. series M (a i);
    r = λ i. series M (r i);
    κ = λ i. length (Q i) -ₙ 1;
    size = λ i. length (a i);
    Q_first = Q_first;
    P_first = P_first;
    divide = divide;
    P_step = P_step;
    Q_step = Q_step;
    Q_deg = Q_deg;
    reduced = λ i. let h = Q_length i in omega arith;
    r_low = λ i. rem_low (add o (P i) d) (Q i) _ (Q_deg i);
    a_low = λ i. below_length M (a i);
    near = near;
  }
