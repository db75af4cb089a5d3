-- √D of lists: d is the root of D, and D is not a square. The degree of a list's polynomial by its length,
-- and the definitions of the walk as they are read.
use Prim.Native.Nat.{ℕ, zero, suc}
use Rattle.std.specs.Prelude.{◌≡◌, List, [], ◌∷◌, length}
use Rattle.std.proofs.Math.Path.{refl, subst}
use Rattle.std.proofs.Common.{sym, ap, ◌∙◌}
use Rattle.math_algebra.specs.Field.{Field}
use Rattle.math_algebra.specs.Polynomial.{F, Deg}
use Rattle.math_algebra.specs.Root.{IsRoot}
use Rattle.math_surd.specs.Root.{NoSquare}
use Rattle.spec_arithmetic.specs.Field.{Ops}
use Rattle.spec_arithmetic.specs.Polynomials.{trim, add, sub, mul, quo, rem}
use Rattle.spec_definitions.specs.Walk.{partial, next_p, next, steps, walk}
use Rattle.spec_definitions.specs.Walk as lists
use Rattle.spec_bridge.specs.Model.{Model, Inverts, Oks, series}
use Rattle.spec_bridge.specs.Trim.{Trim}
use Rattle.spec_bridge.specs.Degree.{deg_size}
use Rattle.spec_bridge.specs.Arithmetic.{oks_nil, oks_sub, trim_sub}
use Rattle.spec_bridge.specs.Division.{oks_quo, oks_rem, trim_quo, trim_rem}
pub use Rattle.spec_bridge.specs.One.{series_one, trim_one, oks_one}

module _ {A B : Type 0} {o : Ops A} (K : Field B) (M : Model o (F K)) where
  pub deg_length : (l : List A) (n : ℕ) → Trim M l → Deg K (series M l) n → length l ≡ suc n
  deg_length l n e t = ap length (sym e) ∙ deg_size K M l t

  pub record Surd (g : ℕ) (D d : List A) : Type 0 where
    pub inverts : Inverts M
    pub is_root : IsRoot K (series M D) (series M d) (suc g)
    pub trimmed : Trim M d
    pub reduced : Oks M d
    pub no_square : NoSquare K (series M D)

module _ {A B : Type 0} {o : Ops A} {K : Field B} {M : Model o (F K)} {g : ℕ} {D d : List A} (s : Surd K M g D d) where
  abbrev Q : ℕ → List A
  Q = lists.Q o D d

  abbrev P : ℕ → List A
  P = lists.P o D d

  abbrev a : ℕ → List A
  a = lists.a o D d

  -- the remainder of P_i + d by Q_i
  abbrev pub r : ℕ → List A
  r i = rem o (add o (P i) d) (Q i)

  -- ---- the definitions, as they are read
  pub Q_zero : Q 0 ≡ o.one ∷ []
  unfolding walk steps
  Q_zero = refl

  pub P_zero : P 0 ≡ []
  unfolding walk steps
  P_zero = refl

  pub a_is : (i : ℕ) → a i ≡ quo o (add o (P i) d) (Q i)
  unfolding partial
  a_is i = refl

  pub P_suc : (i : ℕ) → P (suc i) ≡ sub o (mul o (a i) (Q i)) (P i)
  unfolding walk steps next next_p
  P_suc i = refl

  pub Q_suc : (i : ℕ) → Q (suc i) ≡ quo o (sub o D (mul o (P (suc i)) (P (suc i)))) (Q i)
  unfolding walk steps next
  Q_suc i = refl

  -- D − P² at the next P, which is divided by Q
  abbrev pub rest : ℕ → List A
  rest i = sub o D (mul o (P (suc i)) (P (suc i)))

  -- ---- no list of the walk has a zero at its end, and its coefficients stand for themselves
  pub Q_trim : (i : ℕ) → Trim M (Q i)
  Q_trim zero = subst (Trim M) (sym Q_zero) (trim_one K M)
  Q_trim (suc i) = subst (Trim M) (sym (Q_suc i)) (trim_quo M (rest i) (Q i))

  pub Q_oks : (i : ℕ) → Oks M (Q i)
  Q_oks zero = subst (Oks M) (sym Q_zero) (oks_one K M)
  Q_oks (suc i) = subst (Oks M) (sym (Q_suc i)) (oks_quo M (rest i) (Q i))

  pub P_trim : (i : ℕ) → Trim M (P i)
  unfolding trim
  P_trim zero = subst (Trim M) (sym P_zero) refl
  P_trim (suc i) = subst (Trim M) (sym (P_suc i)) (trim_sub M (mul o (a i) (Q i)) (P i))

  pub P_oks : (i : ℕ) → Oks M (P i)
  P_oks zero = subst (Oks M) (sym P_zero) (oks_nil M)
  P_oks (suc i) = subst (Oks M) (sym (P_suc i)) (oks_sub M (mul o (a i) (Q i)) (P i))

  pub a_trim : (i : ℕ) → Trim M (a i)
  a_trim i = subst (Trim M) (sym (a_is i)) (trim_quo M (add o (P i) d) (Q i))

  pub r_trim : (i : ℕ) → Trim M (r i)
  r_trim i = trim_rem M (add o (P i) d) (Q i)

  pub r_oks : (i : ℕ) → Oks M (r i)
  r_oks i = oks_rem M (add o (P i) d) (Q i)
