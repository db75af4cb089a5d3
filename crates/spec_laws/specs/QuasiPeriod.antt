-- The quasi-period within a budget b: `some m` exactly where m is the first index from 1 to b whose Q is a
-- nonzero constant, `none` exactly where no index from 1 to b has one.
use Prim.Native.Nat.{ℕ, zero, suc, ◌+◌ as ◌+ₙ◌, ◌≤◌, ◌<◌}
use Rattle.std.proofs.Common.{eq-or-lt_of_le, arith, ap, ◌∙◌}
use Rattle.std.specs.Prelude.{◌≡◌, Bool, List}
use Rattle.std.proofs.Math.Path.{refl, sym, subst}
use Rattle.std.proofs.Math.Bool.{true, false}
use Rattle.std.proofs.Math.Logic.{⊎_elim}
use Rattle.std.proofs.Math.Option.{Option, none, some}
use Rattle.std.proofs.Math.ListN.{length}
use borrow.Author.Tests.{eqb-true, eqb-false}
use Rattle.math_ring.specs.Order.{le_or_lt}
use Rattle.math_algebra.specs.Field.{Field}
use Rattle.math_algebra.specs.Polynomial.{F}
use Rattle.math_surd.specs.QuasiPeriod.{QuasiPeriod}
use Rattle.spec_arithmetic.specs.Field.{Ops}
use Rattle.spec_arithmetic.specs.Polynomials.{size}
use Rattle.spec_definitions.specs.Walk.{constant?, first_from, quasi_period}
use Rattle.spec_definitions.specs.Walk as lists
use Rattle.spec_bridge.specs.Model.{Model}
use Rattle.spec_bridge.specs.Trim.{size_is}
use Rattle.spec_laws.specs.Surd.{Surd, Q_trim}
use Rattle.spec_laws.specs.Fraction.{fraction, Q_some}

module _ {A : Type 0} (o : Ops A) (D d : List A) where
  abbrev Q : ℕ → List A
  Q = lists.Q o D d

  -- m is the first index from 1 to b whose Q is a nonzero constant
  pub record Quasi (b m : ℕ) : Type 0 where
    pub positive : 0 < m
    pub within : m ≤ b
    pub constant : length (Q m) ≡ 1
    pub least : (j : ℕ) → 0 < j → j < m → length (Q j) ≡ 1 → ⊥

  -- no index from 1 to b has such a Q
  abbrev pub NoQuasi : ℕ → Type 0
  NoQuasi b = (j : ℕ) → 0 < j → j ≤ b → length (Q j) ≡ 1 → ⊥

  quasi_one : (b m n : ℕ) → Quasi b m → Quasi b n → m ≡ n
  quasi_one b m n h k = ⊎_elim (λ u. ⊎_elim (λ v. omega arith) (λ v. absurd (h.least n k.positive v k.constant)) (le_or_lt m n)) (λ u. absurd (k.least m h.positive u h.constant)) (le_or_lt n m)

module _ {A B : Type 0} {o : Ops A} {K : Field B} {M : Model o (F K)} {g : ℕ} {D d : List A} (s : Surd K M g D d) where
  abbrev q : ℕ → List A
  q = lists.Q o D d

  -- ---- over the field
  pub fraction_quasi_period : {b m : ℕ} → Quasi o D d b m → QuasiPeriod K (fraction s) m
  fraction_quasi_period first = record { positive = first.positive; constant = let e = first.constant in omega arith; least = λ j l u e. first.least j l u (let k = Q_some s j in omega arith) }

  -- ---- the test
  pub size_length : (i : ℕ) → size o (q i) ≡ length (q i)
  size_length i = size_is M (q i) ∙ ap length (Q_trim s i)

  pub constant_true : (i : ℕ) → constant? o D d i ≡ true → length (q i) ≡ 1
  unfolding constant?
  constant_true i e = sym (size_length i) ∙ eqb-true _ 1 e

  pub constant_false : (i : ℕ) → constant? o D d i ≡ false → length (q i) ≡ 1 → ⊥
  unfolding constant?
  constant_false i e h = eqb-false _ 1 e (size_length i ∙ h)

  -- ---- the search from i up, among k indices
  record From (k i m : ℕ) : Type 0 where
    low : i ≤ m
    high : m < i +ₙ k
    constant : length (q m) ≡ 1
    least : (j : ℕ) → i ≤ j → j < m → length (q j) ≡ 1 → ⊥

  abbrev Found : ℕ → ℕ → Option ℕ → Type 0
  Found k i none = (j : ℕ) → i ≤ j → j < i +ₙ k → length (q j) ≡ 1 → ⊥
  Found k i (some m) = From k i m

  search_found : (k i : ℕ) → Found k i (first_from o D d k i)
  unfolding first_from
  search_found zero i = λ j h l. absurd (omega arith)
  search_found (suc k) i = go (constant? o D d i) refl (first_from o D d k (suc i)) (search_found k (suc i))
    where
      go : (t : Bool) → constant? o D d i ≡ t → (x : Option ℕ) → Found k (suc i) x → Found (suc k) i (elim t [ true ↦ some i | false ↦ x ])
      go true e x h = record { low = omega arith; high = omega arith; constant = constant_true i e; least = λ j u v. absurd (omega arith) }
      go false e none h = λ j u v. ⊎_elim (λ w. subst (λ (n : ℕ). length (q n) ≡ 1 → ⊥) w (constant_false i e)) (λ w. h j w (omega arith)) (eq-or-lt_of_le u)
      go false e (some m) h = record {
        low = let l = h.low in omega arith;
        high = let l = h.high in omega arith;
        constant = h.constant;
        least = λ j u v. ⊎_elim (λ w. subst (λ (n : ℕ). length (q n) ≡ 1 → ⊥) w (constant_false i e)) (λ w. h.least j w v) (eq-or-lt_of_le u);
      }

  -- ---- the quasi-period
  abbrev pub Says : ℕ → Option ℕ → Type 0
  Says b none = NoQuasi o D d b
  Says b (some m) = Quasi o D d b m

  pub quasi_says : (b : ℕ) → Says b (quasi_period o D d b)
  unfolding quasi_period
  quasi_says b = go (first_from o D d b 1) (search_found b 1)
    where
      go : (x : Option ℕ) → Found b 1 x → Says b x
      go none h = λ j u v. h j u (omega arith)
      go (some m) h = record { positive = h.low; within = let l = h.high in omega arith; constant = h.constant; least = λ j u v. h.least j u v }

  pub quasi_some : (b m : ℕ) → quasi_period o D d b ≡ some m → Quasi o D d b m
  quasi_some b m e = subst (Says b) e (quasi_says b)

  pub some_quasi : (b m : ℕ) → Quasi o D d b m → quasi_period o D d b ≡ some m
  some_quasi b m h = go (quasi_period o D d b) (quasi_says b)
    where
      go : (x : Option ℕ) → Says b x → x ≡ some m
      go none k = absurd (k m h.positive h.within h.constant)
      go (some n) k = ap some (quasi_one o D d b n m k h)

  pub none_quasi : (b : ℕ) → NoQuasi o D d b → quasi_period o D d b ≡ none
  none_quasi b h = go (quasi_period o D d b) (quasi_says b)
    where
      go : (x : Option ℕ) → Says b x → x ≡ none
      go none k = refl
      go (some n) k = absurd (h n k.positive k.within k.constant)
