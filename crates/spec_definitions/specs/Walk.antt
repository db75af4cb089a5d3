-- The walk, the expansion of √D as a continued fraction: P, Q, the partial quotients a and the convergents p,
-- s as functions of the index, over any coefficients.
use Rattle.std.specs.Prelude.{ℕ, zero, suc, ◌%◌, Bool, true, false, List, [], ◌∷◌, eqb}
use Rattle.std.proofs.Math.Option.{Option, none, some}
use Rattle.spec_arithmetic.specs.Field.{Ops}
use Rattle.spec_arithmetic.specs.Polynomials.{at, add, sub, mul, scale, quo, size, deg, lead}

-- the pair (Q, P)
pub record Ideal (A : Type 0) : Type 0 where
  pub q : List A
  pub p : List A

-- the unit (p, s): p + s·√D is the fundamental unit of F_q[x, √D] up to a constant factor; p is monic
pub record Unit (A : Type 0) : Type 0 where
  pub p : List A
  pub s : List A

module _ {A : Type 0} (o : Ops A) (D d : List A) where
  -- "a_i = (P_i + d) div Q_i"
  unfoldable pub partial : Ideal A → List A
  partial s = quo o (add o s.p d) s.q

  -- "P_{i+1} = a_i·Q_i − P_i"
  unfoldable pub next_p : Ideal A → List A
  next_p s = sub o (mul o (partial s) s.q) s.p

  -- "Q_{i+1} = (D − P_{i+1}²) / Q_i"
  unfoldable pub next : Ideal A → Ideal A
  next s = let p : List A = next_p s in record { q = quo o (sub o D (mul o p p)) s.q; p = p }

  -- i steps from s
  unfoldable pub steps : Ideal A → ℕ → Ideal A
  steps s zero = s
  steps s (suc i) = next (steps s i)

  -- "Start: P_0 = 0, Q_0 = 1. Then for i = 0, 1, ..": the pair of index i
  unfoldable pub walk : ℕ → Ideal A
  walk i = steps (record { q = o.one ∷ []; p = [] }) i

  abbrev pub Q : ℕ → List A
  Q i = (walk i).q

  abbrev pub P : ℕ → List A
  P i = (walk i).p

  abbrev pub a : ℕ → List A
  a i = partial (walk i)

  -- "Convergents: p_{−1} = 1, .. p_0 = d, .. then p_i = a_i·p_{i−1} + p_{i−2}": `p_before i` is p_{i−1}
  unfoldable pub p_before : ℕ → List A
  p_before zero = o.one ∷ []
  p_before (suc zero) = d
  p_before (suc (suc i)) = add o (mul o (a (suc i)) (p_before (suc i))) (p_before i)

  -- "s_{−1} = 0, .. s_0 = 1, .. and s_i likewise": `s_before i` is s_{i−1}
  unfoldable pub s_before : ℕ → List A
  s_before zero = []
  s_before (suc zero) = o.one ∷ []
  s_before (suc (suc i)) = add o (mul o (a (suc i)) (s_before (suc i))) (s_before i)

  -- Q_i is a nonzero constant
  unfoldable pub constant? : ℕ → Bool
  constant? i = eqb (size o (Q i)) 1

  -- the first index from i up, among k indices, whose Q is a nonzero constant
  unfoldable pub first_from : ℕ → ℕ → Option ℕ
  first_from zero i = none
  first_from (suc k) i = elim (constant? i) [ true ↦ some i | false ↦ first_from k (suc i) ]

  -- "The walk stops at the first index from 1 up whose Q is a nonzero constant, and that index m is its
  -- yield. m is the quasi-period": within a budget b from the quasi-period on the expansion repeats up to
  -- constant factors (source 000, section 2C)
  unfoldable pub quasi_period : ℕ → Option ℕ
  quasi_period b = first_from b 1

  -- deg p_{i−1}: "R = deg p_{m−1} the regulator", which is the degree of the fundamental unit; "The degree
  -- reached when spent is deg p_{b−1}"
  unfoldable pub degree_before : ℕ → ℕ
  degree_before i = deg o (p_before i)

  -- 1/λ, where λ is the leading coefficient of p_{m−1}
  unfoldable pub over_lead : ℕ → A
  over_lead m = o.inv (lead o (p_before m))

  -- "(p_{m−1}, s_{m−1}) the unit"; R-3: "From now on the unit's p is monic, s is divided by the same constant"
  unfoldable pub unit_of : ℕ → Unit A
  unit_of m = record { p = scale o (over_lead m) (p_before m); s = scale o (over_lead m) (s_before m) }

  -- (−1)^m times the constant coefficient of Q_m: where Q_m is constant, the norm p_{m−1}² − D·s_{m−1}²
  unfoldable pub signed_q : ℕ → A
  signed_q m = elim (eqb (m % 2) 0) [ true ↦ at o (Q m) 0 | false ↦ o.sub o.zer (at o (Q m) 0) ]

  -- "c = (−1)^m·Q_m the constant"; R-3: "and c by its square": the norm p² − D·s² of the monic unit
  unfoldable pub constant_of : ℕ → A
  constant_of m = o.mul (o.mul (over_lead m) (over_lead m)) (signed_q m)
