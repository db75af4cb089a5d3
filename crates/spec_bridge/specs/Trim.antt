-- Lists without zeros at their end: `trim` keeps the polynomial, and a trimmed list of `Ok` coefficients is
-- known by its polynomial.
use Prim.Native.Nat.{ℕ, zero, suc, ◌-◌ as ◌-ₙ◌, ◌≤◌, ◌<◌, zero-le, suc-le-suc}
use Rattle.std.proofs.Common.{le_of_suc-le-suc, eq-or-lt_of_le, ◌∙◌, ⊎_elim}
use native.Mathlib.Omega.{arith}
use Rattle.std.specs.Prelude.{◌≡◌, Bool}
use Rattle.std.proofs.Math.Path.{refl, sym, ap, ap₂, fun_ext, subst}
use Rattle.std.proofs.Math.Bool.{true, false}
use mathlib.Core.List.{List, [], ◌∷◌}
use Rattle.std.proofs.Math.ListN.{length, get_or-eq_default}
use Rattle.math_ring.specs.Ring.{CRing}
use Rattle.math_ring.specs.Order.{le_or_lt}
use Rattle.math_ring.specs.Series.{S}
use Rattle.math_ring.specs.Degree.{Below}
use Rattle.spec_arithmetic.specs.Field.{Ops}
use Rattle.spec_arithmetic.specs.Polynomials.{at, keep, cons, trim, size, lead}
use Rattle.spec_bridge.specs.Model.{Model, Oks, series, zer?-zer}

module _ {A B : Type 0} {o : Ops A} {R : CRing B} (M : Model o R) where
  open M use {φ, φ_zer, zer?-true, Ok, inj, ok_zer}

  -- no zero at the end
  abbrev pub Trim : List A → Type 0
  Trim l = trim o l ≡ l

  -- ---- the coefficients of a trimmed list
  at_keep : (a : A) (b : Bool) (i : ℕ) → i < length (keep o b a) → at o (keep o b a) i ≡ at o (a ∷ []) i
  at_keep a true i h = absurd (omega arith)
  at_keep a false i h = refl

  -- trimming changes no coefficient that it keeps
  pub trim_kept : (l : List A) (i : ℕ) → i < length (trim o l) → at o (trim o l) i ≡ at o l i
  unfolding trim
  trim_kept [] i h = refl
  trim_kept (a ∷ l) i h = go (trim o l) (trim_kept l) i h
    where
      go : (t : List A) → ((j : ℕ) → j < length t → at o t j ≡ at o l j) → (i : ℕ) → i < length (cons o a t) → at o (cons o a t) i ≡ at o (a ∷ l) i
      go [] same zero p = at_keep a (o.zer? a) zero p
      go [] same (suc i) p = absurd (short (o.zer? a) p)
        where
          short : (b : Bool) → suc i < length (keep o b a) → ⊥
          short true q = omega arith
          short false q = omega arith
      go (b ∷ t) same zero p = refl
      go (b ∷ t) same (suc i) p = same i (le_of_suc-le-suc p)

  keep_series : (a : A) (b : Bool) → (b ≡ true → φ a ≡ R.zer) → (i : ℕ) → φ (at o (keep o b a) i) ≡ φ (at o (a ∷ []) i)
  keep_series a true h zero = φ_zer ∙ sym (h refl)
  keep_series a true h (suc i) = refl
  keep_series a false h i = refl

  cons_series : (a : A) (l : List A) (i : ℕ) → φ (at o (cons o a l) i) ≡ φ (at o (a ∷ l) i)
  cons_series a [] i = keep_series a (o.zer? a) (zer?-true a) i
  cons_series a (b ∷ l) i = refl

  trim_at : (l : List A) (i : ℕ) → φ (at o (trim o l) i) ≡ φ (at o l i)
  unfolding trim
  trim_at [] i = refl
  trim_at (a ∷ l) zero = cons_series a (trim o l) zero
  trim_at (a ∷ l) (suc i) = cons_series a (trim o l) (suc i) ∙ trim_at l i

  pub series_trim : (l : List A) → series M (trim o l) ≡ series M l
  series_trim l = fun_ext (trim_at l)

  -- ---- lengths
  pub below_length : (l : List A) → Below R (series M l) (length l)
  below_length [] i h = φ_zer
  below_length (a ∷ l) zero h = absurd (omega arith)
  below_length (a ∷ l) (suc i) h = below_length l i (le_of_suc-le-suc h)

  pub trim_none : (l : List A) → Below R (series M l) 0 → trim o l ≡ []
  unfolding trim
  trim_none [] h = refl
  trim_none (a ∷ l) h = ap (cons o a) (trim_none l (λ i p. h (suc i) zero-le)) ∙ ap (λ b. keep o b a) (zer?-zer M a (h 0 zero-le))

  -- the size is at most n where the polynomial has degree under n
  pub size_le : (l : List A) (n : ℕ) → Below R (series M l) n → length (trim o l) ≤ n
  unfolding trim
  size_le [] n h = zero-le
  size_le (a ∷ l) zero h = subst (λ (t : List A). length t ≤ 0) (sym (trim_none (a ∷ l) h)) zero-le
  size_le (a ∷ l) (suc n) h = more (trim o l) (size_le l n (λ i p. h (suc i) (suc-le-suc p)))
    where
      one : (b : Bool) → length (keep o b a) ≤ suc n
      one true = zero-le
      one false = suc-le-suc zero-le

      more : (t : List A) → length t ≤ n → length (cons o a t) ≤ suc n
      more [] p = one (o.zer? a)
      more (b ∷ t) p = suc-le-suc p

  pub length_trim : (l : List A) → length (trim o l) ≤ length l
  length_trim l = size_le l (length l) (below_length l)

  -- the length of a trimmed list is at most n
  pub length_le : (l : List A) (n : ℕ) → Trim l → Below R (series M l) n → length l ≤ n
  length_le l n t h = subst (λ (p : List A). length p ≤ n) t (size_le l n h)

  -- past the size every coefficient is 0
  pub below_size : (l : List A) → Below R (series M l) (length (trim o l))
  below_size l i h = sym (trim_at l i) ∙ below_length (trim o l) i h

  pub trim_nil : (l : List A) → length (trim o l) ≡ 0 → trim o l ≡ []
  trim_nil l = go (trim o l)
    where
      go : (t : List A) → length t ≡ 0 → t ≡ []
      go [] h = refl
      go (a ∷ t) h = absurd (omega arith)

  pub trim_idem : (l : List A) → Trim (trim o l)
  unfolding trim
  trim_idem [] = refl
  trim_idem (a ∷ l) = go (trim o l) (trim_idem l)
    where
      kept : (b : Bool) → o.zer? a ≡ b → trim o (keep o b a) ≡ keep o b a
      kept true e = refl
      kept false e = ap (λ b. keep o b a) e

      go : (t : List A) → trim o t ≡ t → trim o (cons o a t) ≡ cons o a t
      go [] h = kept (o.zer? a) refl
      go (b ∷ t) h = ap (cons o a) h

  -- ---- the polynomial tells the list
  pub trim_ext : (p q : List A) → ((i : ℕ) → at o p i ≡ at o q i) → trim o p ≡ trim o q
  unfolding trim
  trim_ext [] [] h = refl
  trim_ext [] (b ∷ q) h = sym (trim_none (b ∷ q) (λ i p. ap φ (sym (h i)) ∙ φ_zer))
  trim_ext (a ∷ p) [] h = trim_none (a ∷ p) (λ i r. ap φ (h i) ∙ φ_zer)
  trim_ext (a ∷ p) (b ∷ q) h = ap₂ (cons o) (h 0) (trim_ext p q (λ i. h (suc i)))

  pub series_ext : (p q : List A) → Trim p → Trim q → Oks M p → Oks M q → series M p ≡ series M q → p ≡ q
  series_ext p q t s j k e = sym t ∙ trim_ext p q (λ i. inj _ _ (j i) (k i) (ap (λ (f : S R). f i) e)) ∙ s

  -- polynomials that are equal have the same size
  pub size_series : (p q : List A) → series M p ≡ series M q → length (trim o p) ≡ length (trim o q)
  size_series p q e =
      let h : length (trim o p) ≤ length (trim o q) = size_le p _ (subst (λ (f : S R). Below R f (length (trim o q))) (sym e) (below_size q)) in
      let k : length (trim o q) ≤ length (trim o p) = size_le q _ (subst (λ (f : S R). Below R f (length (trim o p))) e (below_size p)) in
      omega arith

  -- ---- with coefficients that stand for themselves
  pub oks_trim : (l : List A) → Oks M l → Oks M (trim o l)
  oks_trim l k i = ⊎_elim (λ h. subst Ok (sym (get_or-eq_default (trim o l) o.zer h)) ok_zer) (λ h. subst Ok (sym (trim_kept l i h)) (k i)) (le_or_lt (length (trim o l)) i)

  pub at_trim : (l : List A) → Oks M l → (i : ℕ) → at o (trim o l) i ≡ at o l i
  at_trim l k i = inj _ _ (oks_trim l k i) (k i) (trim_at l i)

  pub trim_past : (l : List A) → Oks M l → (i : ℕ) → length (trim o l) ≤ i → at o l i ≡ o.zer
  trim_past l k i h = inj _ _ (k i) ok_zer (below_size l i h ∙ sym φ_zer)

  pub trim_le : (l : List A) (n : ℕ) → ((i : ℕ) → n ≤ i → at o l i ≡ o.zer) → length (trim o l) ≤ n
  trim_le l n h = size_le l n (λ i p. ap φ (h i p) ∙ φ_zer)

  -- ---- the leading coefficient
  size_low : (l : List A) → φ (at o l (length (trim o l) -ₙ 1)) ≡ R.zer → Below R (series M l) (length (trim o l) -ₙ 1)
  size_low l e i p = ⊎_elim (λ q. subst (λ (n : ℕ). φ (at o l n) ≡ R.zer) q e) (λ q. below_size l i (omega arith)) (eq-or-lt_of_le p)

  -- is not 0
  pub lead_some : (l : List A) → 0 < length (trim o l) → φ (lead o l) ≡ R.zer → ⊥
  unfolding lead size
  lead_some l h e = let k : length (trim o l) ≤ length (trim o l) -ₙ 1 = size_le l _ (size_low l e) in omega arith

  pub lead_none : (l : List A) → length (trim o l) ≡ 0 → φ (lead o l) ≡ R.zer
  unfolding lead size
  lead_none l h = below_size l _ (omega arith)

  pub lead_is : (l : List A) → lead o l ≡ at o l (length (trim o l) -ₙ 1)
  unfolding lead size
  lead_is l = refl

  pub size_is : (l : List A) → size o l ≡ length (trim o l)
  unfolding size
  size_is l = refl
