-- The proofs of specs/Middles.
use Prim.Native.Nat.{ℕ, zero, suc, ◌+◌ as ◌+ₙ◌, ◌-◌ as ◌-ₙ◌, ◌<◌}
use Rattle.std.proofs.Common.{zero-add, eq-or-lt_of_le, sym, ap, ◌∙◌, ⊎_elim, eqb-true, eq-eqb}
use native.Mathlib.Omega.{arith}
use Rattle.std.specs.Prelude.{◌≡◌, refl, Bool, false, List, [], ◌∷◌, length}
use Rattle.std.proofs.Math.Path.{subst}
use Rattle.std.proofs.Math.Bool.{true}
use Rattle.std.proofs.lemmas.Bool.{false≢true}
use Rattle.std.proofs.Math.Option.{Option, some}
use Rattle.math_ring.specs.Ring.{CRing, eq_of_sub}
use Rattle.math_ring.specs.Identity.{ring_from, times, quote}
use Rattle.math_ring.specs.Series.{Series}
use Rattle.math_algebra.specs.Field.{Field, some_inv}
use Rattle.math_algebra.specs.Polynomial.{F, Px, Monic}
use Rattle.math_algebra.specs.Associate.{Associate, associate_sym, associate_trans, associate_path, associate_monic_equal}
use Rattle.math_symmetry.specs.Half.{MiddleQ, MiddleP, NoMiddle}
use Rattle.spec_arithmetic.specs.Field.{Ops}
use Rattle.spec_arithmetic.specs.Polynomials.{trim, sub, lead, monic}
use Rattle.spec_definitions.specs.Walk as lists
use Rattle.spec_bridge.specs.Model.{Model, series}
use Rattle.spec_bridge.specs.Trim.{size_is, below_length, lead_some}
use Rattle.spec_bridge.specs.Arithmetic.{series_sub}
use Rattle.spec_bridge.specs.Degree.{series_zero, zero_size}
use Rattle.spec_bridge.specs.Monic.{series_monic, monic_top, length_monic}
use Rattle.spec_bridge.specs.Euclid.{φ_inv}
use Rattle.spec_laws.specs.Surd.{Surd, Q_trim}
use Rattle.spec_laws.specs.Fraction.{fraction, Q_some}
use Rattle.spec_sentences.specs.Tests.{Tests}
use Rattle.spec_half.specs.Half.{Middle, by_q, by_p, equal?, middle_q?, middle_p?, first_middle}
use Rattle.spec_half.specs.Middles as defs

module _ {A B : Type 0} {o : Ops A} {K : Field B} {M : Model o (F K)} {g : ℕ} {D d : List A} (s : Surd K M g D d) where
  open Series (F K) use {add as ◌+◌, neg as -◌, zer as 𝟘, one as 𝟙}

  infixl 6 ◌+◌
  infix 8 -◌
  abbrev R[x] : CRing (Px K)
  R[x] = Series (F K)

  abbrev Q : ℕ → List A
  Q = lists.Q o D d

  -- ---- the same polynomial
  pub tests_equal : (x y : List A) → Tests (equal? o x y) (series M x ≡ series M y)
  unfolding equal?
  tests_equal x y = (equal, equal?-true)
    where
      zero_sub : series M x ≡ series M y → series M x + (- series M y) ≡ 𝟘
      zero_sub e = ring_from R[x] (series M x ∷ series M y ∷ []) (times R[x] 𝟙 e) (search quote depth 40 fits 9999) tt

      equal : equal? o x y ≡ true → series M x ≡ series M y
      equal e =
          let gone : length (trim o (sub o x y)) ≡ 0 = sym (size_is M (sub o x y)) ∙ eqb-true _ 0 e in
          eq_of_sub R[x] (series M x) (series M y) (sym (series_sub M x y) ∙ series_zero K M (sub o x y) gone)

      equal?-true : series M x ≡ series M y → equal? o x y ≡ true
      equal?-true e =
          let gone : trim o (sub o x y) ≡ [] = zero_size K M (sub o x y) (series_sub M x y ∙ zero_sub e) in
          eq-eqb _ 0 (size_is M (sub o x y) ∙ ap length gone)

  -- ---- Q made monic
  Q_size : (i : ℕ) → 0 < length (trim o (Q i))
  Q_size i = let e = ap length (Q_trim s i) in let l = Q_some s i in omega arith

  pub lead_not_zero : (i : ℕ) → M.φ (lead o (Q i)) ≡ (F K).zer → ⊥
  lead_not_zero i = lead_some M (Q i) (Q_size i)

  monic_Q : (i : ℕ) → Monic K (series M (monic o (Q i))) (length (trim o (Q i)) -ₙ 1)
  monic_Q i = record {
    low = λ j l. below_length M (monic o (Q i)) j (let e = length_monic M s.inverts (Q i) in let k = Q_size i in omega arith);
    top = monic_top M s.inverts (Q i) (Q_size i);
  }

  monic_ratio : (i : ℕ) → Associate K (series M (monic o (Q i))) (series M (Q i))
  monic_ratio i = record {
    factor = M.φ (o.inv (lead o (Q i)));
    some = λ e. some_inv K (M.φ (lead o (Q i))) (lead_not_zero i) (sym (φ_inv K M s.inverts (lead o (Q i)) (lead_not_zero i)) ∙ e);
    is = series_monic M s.inverts (Q i);
  }

  -- ---- the tests
  pub tests_Q : (i : ℕ) → Tests (middle_q? o D d i) (MiddleQ K (fraction s) i)
  unfolding middle_q?
  tests_Q i = (ratio, equal)
    where
      ratio : middle_q? o D d i ≡ true → MiddleQ K (fraction s) i
      ratio e =
          let same = associate_path K ((tests_equal _ _).0 e) in
          associate_trans K (associate_sym K (monic_ratio (suc i))) (associate_trans K same (monic_ratio i))

      equal : MiddleQ K (fraction s) i → middle_q? o D d i ≡ true
      equal t =
          let same = associate_trans K (monic_ratio (suc i)) (associate_trans K t (associate_sym K (monic_ratio i))) in
          (tests_equal _ _).1 (associate_monic_equal K (monic_Q (suc i)) (monic_Q i) same)

  pub tests_P : (i : ℕ) → Tests (middle_p? o D d i) (MiddleP K (fraction s) i)
  unfolding middle_p?
  tests_P i = tests_equal _ _

  abbrev Searched : ℕ → Option Middle → Type 0
  Searched = defs.Searched s

  no_middle_zero : NoMiddle K (fraction s) 0
  no_middle_zero = record { no_Q = λ j l. absurd (omega arith); no_P = λ j l. absurd (omega arith) }

  no_middle_suc : (i : ℕ) → NoMiddle K (fraction s) i → ¬ MiddleQ K (fraction s) i → ¬ MiddleP K (fraction s) i → NoMiddle K (fraction s) (suc i)
  no_middle_suc i h x y = record { no_Q = λ j l. earlier (MiddleQ K (fraction s)) x h.no_Q j l; no_P = λ j l. earlier (MiddleP K (fraction s)) y h.no_P j l }
    where
      earlier : (T : ℕ → Type 0) → ¬ T i → ((j : ℕ) → j < i → ¬ T j) → (j : ℕ) → j < suc i → ¬ T j
      earlier T x h j l = ⊎_elim (λ e. subst (λ (n : ℕ). ¬ T n) (let r : i ≡ j = omega arith in r) x) (λ k. h j (omega arith)) (eq-or-lt_of_le l)

  -- from i up, among k indices, where no test holds before i
  search_middle : (k i : ℕ) → NoMiddle K (fraction s) i → Searched (i +ₙ k) (first_middle o D d k i)
  unfolding first_middle
  search_middle zero i h = subst (NoMiddle K (fraction s)) (let e : i ≡ i +ₙ 0 = omega arith in e) h
  search_middle (suc k) i h = go (middle_q? o D d i) (tests_Q i) (middle_p? o D d i) (tests_P i) (search_middle k (suc i))
    where
      rest : Option Middle
      rest = first_middle o D d k (suc i)

      go : (t : Bool) → Tests t (MiddleQ K (fraction s) i) → (u : Bool) → Tests u (MiddleP K (fraction s) i) → (NoMiddle K (fraction s) (suc i) → Searched (suc i +ₙ k) rest) → Searched (i +ₙ suc k) (elim t [ true ↦ some (by_q i) | false ↦ elim u [ true ↦ some (by_p i) | false ↦ rest ] ])
      go true t u v next = (omega arith, h, t.0 refl)
      go false t true v next = (omega arith, h, λ x. false≢true (t.1 x), v.0 refl)
      go false t false v next =
          let h' = no_middle_suc i h (λ x. false≢true (t.1 x)) (λ x. false≢true (v.1 x)) in
          let e : suc i +ₙ k ≡ i +ₙ suc k = omega arith in
          subst (λ (b : ℕ). Searched b rest) e (next h')

  pub first_middle_searched : (b : ℕ) → Searched b (first_middle o D d b 0)
  first_middle_searched b = subst (λ (n : ℕ). Searched n (first_middle o D d b 0)) (zero-add b) (search_middle b 0 no_middle_zero)
