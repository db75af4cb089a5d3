-- The proofs of specs/Tests.
use Rattle.std.specs.Prelude.{ℕ, zero, suc, ◌+◌, ◌≤◌, ◌<◌, ◌≡◌, ◌↔◌, ◌≢◌, ◌⊎◌, Bool, not, ◌||◌, List, [], ◌∷◌, ltb, eqb, length, get_or}
use Rattle.std.proofs.Common.{eq-or-lt_of_le, sym, ◌∙◌, ⊎_elim, ltb-true, lt-ltb, eqb-true, eq-eqb}
use native.Mathlib.Omega.{arith}
use Rattle.std.proofs.Math.Path.{refl, subst}
use Rattle.std.proofs.Math.Logic.{inl, inr}
use Rattle.std.proofs.Math.Bool.{true, false}
use Rattle.std.proofs.lemmas.Bool.{false≢true, eqb-false}
use Rattle.math_ring.specs.Order.{le_or_lt}
use Rattle.spec_arithmetic.specs.Words.{same, some_not}
use Rattle.spec_definitions.specs.Ticket.{first_of}
use Rattle.spec_sentences.specs.Tests.{Tests, end, ◌then◌}
use Rattle.spec_sentences.specs.Tests as defs

-- ---- tests from tests
pub tests_lt : (a b : ℕ) → Tests (ltb a b) (a < b)
tests_lt a b = (ltb-true a b, lt-ltb a b)

pub tests_eq : (a b : ℕ) → Tests (eqb a b) (a ≡ b)
tests_eq a b = (eqb-true a b, eq-eqb a b)

pub tests_not : {b : Bool} {P : Type 0} → Tests b P → Tests (not b) (¬ P)
tests_not {b = true} t = (λ e. absurd (false≢true e), λ h. absurd (h (t.0 refl)))
tests_not {b = false} t = (λ e p. absurd (false≢true (t.1 p)), λ h. refl)

-- what does not hold tests false
pub tests_none : {b : Bool} {P : Type 0} → Tests b P → ¬ P → b ≡ false
tests_none {b = true} t h = absurd (h (t.0 refl))
tests_none {b = false} t h = refl

-- what is tested and not false is true
pub tests_stable : {b : Bool} {P : Type 0} → Tests b P → ¬ ¬ P → P
tests_stable {b = true} t h = t.0 refl
tests_stable {b = false} t h = absurd (h (λ p. absurd (false≢true (t.1 p))))

pub tests_either : {a b : Bool} {P Q : Type 0} → Tests a P → Tests b Q → Tests (a || b) (P ⊎ Q)
tests_either {a = true} s t = (λ e. inl (s.0 refl), λ h. refl)
tests_either {a = false} s t = (λ e. inr (t.0 e), ⊎_elim (λ p. absurd (false≢true (s.1 p))) t.1)

-- the second test may count on the first being false
pub tests_or : {a b c : Bool} {P Q R : Type 0} → Tests a P → (¬ P → Tests b Q) → Tests c R → Tests (a || b || c) (P ⊎ Q ⊎ R)
tests_or {a = true} s t u = (λ e. inl (s.0 refl), λ h. refl)
tests_or {a = false} {b = true} s t u = (λ e. inr (inl ((t (λ p. absurd (false≢true (s.1 p)))).0 refl)), λ h. refl)
tests_or {a = false} {b = false} s t u = (λ e. inr (inr (u.0 e)), ⊎_elim (λ p. absurd (false≢true (s.1 p))) (⊎_elim (λ p. absurd (false≢true ((t (λ r. absurd (false≢true (s.1 r)))).1 p))) u.1))

-- ---- tests of lists: some place of the list ..
-- .. has a number that does not pass a test
pub tests_some : (t : ℕ → Bool) (l : List ℕ) → Tests (some_not t l) ((i : ℕ) × (i < length l) × (t (get_or l i 0) ≡ false))
unfolding some_not
tests_some t [] = (λ e. absurd (false≢true e), λ h. absurd (omega arith))
tests_some t (x ∷ l) = go (t x) refl (tests_some t l)
  where
    go : (b : Bool) → t x ≡ b → Tests (some_not t l) ((i : ℕ) × (i < length l) × (t (get_or l i 0) ≡ false)) → Tests (elim b [ true ↦ some_not t l | false ↦ true ]) ((i : ℕ) × (i < suc (length l)) × (t (get_or (x ∷ l) i 0) ≡ false))
    go false e k = (λ h. (0, omega arith, e), λ h. refl)
    go true e k = (λ h. let r = k.0 h in (suc r.0, omega arith, r.2), λ h. k.1 (later h.0 h.1 h.2))
      where
        later : (i : ℕ) → i < suc (length l) → t (get_or (x ∷ l) i 0) ≡ false → (i : ℕ) × (i < length l) × (t (get_or l i 0) ≡ false)
        later zero low h = absurd (false≢true (sym h ∙ e))
        later (suc i) low h = (i, omega arith, h)

-- .. differs from that of another list of the same length
pub tests_differ : (l m : List ℕ) → length l ≡ length m → Tests (not (same l m)) ((i : ℕ) × (i < length l) × (get_or l i 0 ≢ get_or m i 0))
unfolding same
tests_differ [] [] e = (λ h. absurd (false≢true h), λ h. absurd (omega arith))
tests_differ [] (y ∷ m) e = absurd (omega arith)
tests_differ (x ∷ l) [] e = absurd (omega arith)
tests_differ (x ∷ l) (y ∷ m) e = go (eqb x y) refl (tests_differ l m (omega arith))
  where
    go : (b : Bool) → eqb x y ≡ b → Tests (not (same l m)) ((i : ℕ) × (i < length l) × (get_or l i 0 ≢ get_or m i 0)) → Tests (not (elim b [ true ↦ same l m | false ↦ false ])) ((i : ℕ) × (i < suc (length l)) × (get_or (x ∷ l) i 0 ≢ get_or (y ∷ m) i 0))
    go true w t = (λ h. let r = t.0 h in (suc r.0, omega arith, r.2), λ h. t.1 (later h.0 h.1 h.2))
      where
        later : (i : ℕ) → i < suc (length l) → get_or (x ∷ l) i 0 ≢ get_or (y ∷ m) i 0 → (i : ℕ) × (i < length l) × (get_or l i 0 ≢ get_or m i 0)
        later zero low h = absurd (h (eqb-true x y w))
        later (suc i) low h = (i, omega arith, h)
    go false w t = (λ h. (0, omega arith, eqb-false x y w), λ h. refl)

-- ---- the first of several statements that holds
module _ (P : ℕ → Type 0) where
  abbrev NoneBelow : ℕ → Type 0
  NoneBelow = defs.NoneBelow P

  abbrev First : ℕ → Type 0
  First = defs.First P

  pub none_more : {k : ℕ} → NoneBelow k → ¬ P k → NoneBelow (suc k)
  none_more {k} none h j low high = ⊎_elim (λ (e : suc j ≡ suc k). λ p. h (subst P (omega arith) p)) (λ (l : suc j < suc k). none j low (omega arith)) (eq-or-lt_of_le high)

  -- the tests are numbered from k; each is that of its statement, where none before that holds

  abbrev Numbered : ℕ → List (ℕ × Bool) → Type 0
  Numbered = defs.Numbered P

  abbrev Answers : ℕ → ℕ → Type 0
  Answers = defs.Answers P

  pub first_of_answers : {l : List (ℕ × Bool)} {k : ℕ} → Numbered k l → (m : ℕ) → length l + k ≡ m → 1 ≤ k → NoneBelow k → Answers m (first_of l)
  unfolding first_of
  first_of_answers end m e low none = inl (refl, subst NoneBelow (omega arith) none)
  first_of_answers (◌then◌ {k = k} {b = b} {l = l} t s) m e low none = go b (t none) (first_of_answers s m (omega arith) (omega arith))
    where
      go : (b : Bool) → Tests b (P k) → (NoneBelow (suc k) → Answers m (first_of l)) → Answers m (elim b [ true ↦ k | false ↦ first_of l ])
      go true u rest = inr (low, omega arith, (u.0 refl, none))
      go false u rest = rest (none_more none (λ p. absurd (false≢true (u.1 p))))

  first_unique : {j k : ℕ} → 1 ≤ j → 1 ≤ k → First j → First k → j ≡ k
  first_unique {j} {k} low low' f g = ⊎_elim (λ h. ⊎_elim (λ e. sym e) (λ l. absurd (f.1 k low' l g.0)) (eq-or-lt_of_le h)) (λ l. absurd (g.1 j low l f.0)) (le_or_lt k j)

  -- such an answer is k exactly where k is the first, and 0 exactly where none holds
  pub answer_first : {m r : ℕ} → Answers m r → (k : ℕ) → 1 ≤ k → k < m → (r ≡ k) ↔ First k
  answer_first (inl a) k low high = (λ e. absurd (omega arith), λ f. absurd (a.1 k low high f.0))
  answer_first (inr a) k low high = (λ e. subst First e a.2, λ f. first_unique a.0 low a.2 f)

  pub answer_none : {m r : ℕ} → Answers m r → (r ≡ 0) ↔ NoneBelow m
  answer_none (inl a) = (λ e. a.1, λ h. a.0)
  answer_none {r = r} (inr a) = (λ e. absurd (omega arith), λ h. absurd (h r a.0 a.1 a.2.0))
