-- The proofs of specs/QuasiPeriod.
use Prim.Native.Nat.{ℕ, zero, suc, ◌+◌, ◌*◌, ◌^◌, ◌-◌, ◌≤◌, ◌<◌}
use Rattle.std.proofs.Math.Nat.{mul-le-mul_left, mul-suc}
use Rattle.std.proofs.Common.{zero-add, subst, ◌∙◌, ⊎_elim}
use native.Mathlib.Omega.{arith}
use Rattle.std.specs.Prelude.{◌≡◌, List}
use Rattle.std.proofs.Math.Path.{sym, ap, fun_ext}
use Rattle.math_ring.specs.Order.{le_or_lt}
use Rattle.math_algebra.specs.Field.{Field}
use Rattle.math_algebra.specs.Polynomial.{F}
use Rattle.math_counting.specs.Repeats.{Repeats}
use Rattle.math_counting.proofs.Repeats.{repeated_value}
use Rattle.math_surd.specs.Walk.{κ_first}
use Rattle.math_surd.proofs.Ideal.{same_path}
use Rattle.math_surd.specs.Same.{Same}
use Rattle.math_surd.proofs.Same.{same_prior, same_κ}
use Rattle.math_surd.specs.QuasiPeriod.{QuasiPeriod}
use Rattle.math_surd.proofs.QuasiPeriod.{quasi_period_or_none}
use Rattle.spec_arithmetic.specs.Field.{FieldName, ops}
use Rattle.spec_arithmetic.specs.Polynomials.{size, root}
use Rattle.spec_arithmetic.specs.Words.{values}
use Rattle.spec_definitions.specs.Ticket.{Ticket, genus}
use Rattle.spec_definitions.specs.Walk as walk
use Rattle.spec_definitions.specs.Answers.{ops_of, root_of}
use Rattle.spec_bridge.specs.Model.{Model, series}
use Rattle.spec_fields.specs.Named.{Arithmetic, arithmetic, ok_small}
use Rattle.spec_laws.specs.Surd.{Surd, Q_oks, P_oks}
use Rattle.spec_laws.specs.Fraction.{fraction, Q_length, Q_some}
use Rattle.spec_laws.specs.Walk.{P_length}
use Rattle.spec_laws.specs.QuasiPeriod.{Quasi, size_length}
use Rattle.spec_laws.specs.QuasiPeriod as over
use Rattle.spec_laws.specs.Admitted.{Admitted, is_field, surd_of, admitted}
use Rattle.spec_expansion.specs.Digits.{Digits, number}
use Rattle.spec_expansion.proofs.Digits.{number_below, number_tells, sum_tells}
use Rattle.spec_expansion.specs.QuasiPeriod.{IsQuasiPeriod, T2Exists, QuasiPeriodUnique}
use Rattle.spec_expansion.specs.QuasiPeriod as defs

-- ---- the proof
pub quasi_period_unique : QuasiPeriodUnique
quasi_period_unique t m k h i = ⊎_elim (λ u. ⊎_elim (λ v. omega arith) (λ v. absurd (h.least k i.positive v i.constant)) (le_or_lt m k)) (λ u. absurd (i.least m h.positive u h.constant)) (le_or_lt k m)

module _ {f : FieldName} {g : ℕ} {D : List ℕ} (h : Admitted f g D) where
  abbrev A : Arithmetic f
  A = arithmetic f (is_field h)

  abbrev K : Field A.Elements
  K = A.K

  abbrev M : Model (ops f) (F K)
  M = A.M

  abbrev d : List ℕ
  d = root (ops f) D (suc g)

  abbrev z : Surd K M g D d
  z = surd_of h

  abbrev Q : ℕ → List ℕ
  Q = walk.Q (ops f) D d

  abbrev P : ℕ → List ℕ
  P = walk.P (ops f) D d

  -- ---- the pair (Q_i, P_i) as a number below B²: neither has more than g + 2 coefficients, and each of them fits into a word
  abbrev B : ℕ
  B = values ^ suc (suc g)

  Q_digits : (i : ℕ) → Digits values (Q i)
  Q_digits i n = ok_small f (is_field h) _ (A.ok_is _ (Q_oks z i n))

  P_digits : (i : ℕ) → Digits values (P i)
  P_digits i n = ok_small f (is_field h) _ (A.ok_is _ (P_oks z i n))

  abbrev pair_number : ℕ → ℕ
  pair_number = defs.pair_number h

  Q_below : (i : ℕ) → number values (Q i) < B
  Q_below i = number_below values (suc (suc g)) (Q i) (Q_digits i) (let k = Q_length z i in omega arith)

  P_below : (i : ℕ) → number values (P i) < B
  P_below i = number_below values (suc (suc g)) (P i) (P_digits i) (P_length z i)

  pair_below : (i : ℕ) → pair_number i < B * B
  unfolding defs.pair_number
  pair_below i = let a = Q_below i in let b : B * suc (number values (P i)) ≤ B * B = mul-le-mul_left B (P_below i) in let c : B * suc (number values (P i)) ≡ B * number values (P i) + B = mul-suc B (number values (P i)) in omega arith

  -- the number tells the polynomials, and so the ideal
  pair_same : (i j : ℕ) → pair_number i ≡ pair_number j → Same K (fraction z) i j
  unfolding defs.pair_number
  pair_same i j e =
      let s = sum_tells B (number values (Q i)) (number values (Q j)) (number values (P i)) (number values (P j)) (Q_below i) (Q_below j) e in
      let a : series M (Q i) ≡ series M (Q j) = fun_ext (λ n. ap M.φ (number_tells values (Q i) (Q j) (Q_digits i) (Q_digits j) s.0 n)) in
      let b : series M (P i) ≡ series M (P j) = fun_ext (λ n. ap M.φ (number_tells values (P i) (P j) (P_digits i) (P_digits j) s.1 n)) in
      same_path K a b

  -- back to the index 0
  same_first : (i k : ℕ) → Same K (fraction z) i (i + k) → Same K (fraction z) 0 k
  same_first zero k s = subst (Same K (fraction z) 0) (zero-add k) s
  same_first (suc i) k s = same_first i k (same_prior K (fraction z) i (i + k) (subst (Same K (fraction z) (suc i)) (omega arith) s))

  -- some index from 1 up has the ideal of index 0, so that its Q is constant: the first of them is within it
  exists : (m : ℕ) × QuasiPeriod K (fraction z) m
  exists = ⊎_elim (λ s. (s.0, s.2)) (λ never. absurd (never k (omega (arith, r.rises)) (omega arith) constant)) (quasi_period_or_none K (fraction z) k)
    where
      r : Repeats pair_number (B * B)
      r = repeated_value (B * B) pair_number (λ i _. pair_below i)

      k : ℕ
      k = r.second - r.first

      constant : (fraction z).κ k ≡ 0
      constant = sym (same_κ K (fraction z) 0 k (same_first r.first k (subst (Same K (fraction z) r.first) (omega (arith, r.rises)) (pair_same r.first r.second r.same))).ratio) ∙ κ_first K (fraction z)

  size_constant : (i : ℕ) → (fraction z).κ i ≡ 0 → size (ops f) (Q i) ≡ 1
  size_constant i e = let k = Q_some z i in let l = size_length z i in omega arith

  constant_size : (i : ℕ) → size (ops f) (Q i) ≡ 1 → (fraction z).κ i ≡ 0
  constant_size i e = let l = size_length z i in omega arith

-- as the first index from 1 to m, and over the field
module _ (t : Ticket) (h : Admitted t.field (genus t.n) t.D) (m : ℕ) (q : IsQuasiPeriod t m) where
  pub quasi_of : Quasi (ops_of t) t.D (root (ops_of t) t.D (suc (genus t.n))) m m
  unfolding root_of
  quasi_of = record {
    positive = q.positive;
    within = omega arith;
    constant = sym (size_length (surd_of h) m) ∙ q.constant;
    least = λ j l u e. q.least j l u (size_length (surd_of h) j ∙ e);
  }

  pub period_of : QuasiPeriod (arithmetic t.field (is_field h)).K (fraction (surd_of h)) m
  period_of = over.fraction_quasi_period (surd_of h) quasi_of

pub t2_exists : T2Exists
unfolding root_of
t2_exists w e =
    let h = admitted w e in
    let (m, f) = exists h in
    (m, record { positive = f.positive; constant = size_constant h m f.constant; least = λ j l u k. f.least j l u (constant_size h j k) })
