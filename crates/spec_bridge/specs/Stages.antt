-- Division as a loop does it, from the top coefficient down: with k coefficients to go it has divided `drop k
-- p`, and a dividend shorter than the divisor is its own remainder.
use Prim.Native.Nat.{ℕ, zero, suc, ◌+◌ as ◌+ₙ◌, ◌-◌ as ◌-ₙ◌, ◌≤◌, ◌<◌}
use Rattle.std.proofs.Common.{suc-add, zero-add, arith, sym, ap₂, ◌∙◌, drop-cons}
use Rattle.std.specs.Prelude.{◌≡◌, length, drop}
use Rattle.std.proofs.Math.Path.{refl, ap}
use mathlib.Core.List.{List, [], ◌∷◌}
use Rattle.math_ring.specs.Ring.{CRing, mul_zer, zer_mul, neg_zer}
use Rattle.math_ring.specs.Degree.{Below}
use Rattle.spec_arithmetic.specs.Field.{Ops}
use Rattle.spec_arithmetic.specs.Polynomials.{Split, at, put, divide}
use Rattle.spec_bridge.specs.Model.{Model, Oks, series}
use Rattle.spec_bridge.specs.Division.{put_at, divide_oks, divide_quo_oks}

module _ {A B : Type 0} {o : Ops A} {R : CRing B} (M : Model o R) where
  open M use {φ, φ_zer, φ_sub, φ_mul, inj, ok_zer}

  -- ---- one turn
  pub divide_drop : (u : A) (b p : List A) (k : ℕ) → k < length p → divide o u b (drop k p) ≡ put o u b (at o p k) (divide o u b (drop (suc k) p))
  unfolding divide
  divide_drop u b p k h = ap (divide o u b) (drop-cons p k o.zer h)

  pub quo_zero : (u : A) (b : List A) (a : A) (s : Split A) → at o (put o u b a s).quo 0 ≡ o.mul (at o (a ∷ s.rem) (length b -ₙ 1)) u
  unfolding put
  quo_zero u b a s = refl

  pub quo_suc : (u : A) (b : List A) (a : A) (s : Split A) (i : ℕ) → at o (put o u b a s).quo (suc i) ≡ at o s.quo i
  unfolding put
  quo_suc u b a s i = refl

  -- the quotient's coefficients from k on are those of the division with k coefficients to go
  pub quo_drop : (u : A) (b p : List A) (k i : ℕ) → at o (divide o u b p).quo (k +ₙ i) ≡ at o (divide o u b (drop k p)).quo i
  unfolding divide put
  quo_drop u b p zero i = ap (at o (divide o u b p).quo) (zero-add i)
  quo_drop u b [] (suc k) i = refl
  quo_drop u b (a ∷ p) (suc k) i = ap (at o (divide o u b (a ∷ p)).quo) (suc-add k i) ∙ quo_suc u b a (divide o u b p) (k +ₙ i) ∙ quo_drop u b p k i

  -- ---- a dividend with nothing at the divisor's top or above
  record LowSeries (l : List A) (s : Split A) : Type 0 where
    rem_same : (i : ℕ) → φ (at o s.rem i) ≡ φ (at o l i)
    quo_none : (i : ℕ) → φ (at o s.quo i) ≡ R.zer

  low_series : (u : A) (b l : List A) → Below R (series M l) (length b -ₙ 1) → LowSeries l (divide o u b l)
  unfolding divide put
  low_series u b [] h = record { rem_same = λ i. refl; quo_none = λ i. φ_zer }
  low_series u b (a ∷ l) h = step (divide o u b l) (low_series u b l (λ i p. h (suc i) (omega arith)))
    where
      step : (s : Split A) → LowSeries l s → LowSeries (a ∷ l) (put o u b a s)
      step s d = record { rem_same = rems; quo_none = quos }
        where
          same : (i : ℕ) → φ (at o (a ∷ s.rem) i) ≡ φ (at o (a ∷ l) i)
          same zero = refl
          same (suc i) = d.rem_same i

          none : φ (o.mul (at o (a ∷ s.rem) (length b -ₙ 1)) u) ≡ R.zer
          none = φ_mul _ _ ∙ ap (λ x. R.mul x (φ u)) (same (length b -ₙ 1) ∙ h (length b -ₙ 1) (omega arith)) ∙ zer_mul R (φ u)

          rems : (i : ℕ) → φ (at o (put o u b a s).rem i) ≡ φ (at o (a ∷ l) i)
          rems i = ap φ (put_at M u b a s i) ∙ φ_sub _ _ ∙ ap₂ (λ x y. R.add x (R.neg y)) (same i) (φ_mul _ _ ∙ ap (λ x. R.mul x (φ (at o b i))) none ∙ zer_mul R (φ (at o b i))) ∙ ap (R.add (φ (at o (a ∷ l) i))) (neg_zer R) ∙ R.add_zer (φ (at o (a ∷ l) i))

          quos : (i : ℕ) → φ (at o (put o u b a s).quo i) ≡ R.zer
          quos zero = none
          quos (suc i) = d.quo_none i

  pub divide_low_rem : (u : A) (b l : List A) → Below R (series M l) (length b -ₙ 1) → (i : ℕ) → series M (divide o u b l).rem i ≡ series M l i
  divide_low_rem u b l h = (low_series u b l h).rem_same

  pub divide_low_quo : (u : A) (b l : List A) → Below R (series M l) (length b -ₙ 1) → (i : ℕ) → series M (divide o u b l).quo i ≡ R.zer
  divide_low_quo u b l h = (low_series u b l h).quo_none

  -- the same, coefficient by coefficient
  pub record Low (l : List A) (s : Split A) : Type 0 where
    pub rem_is : (i : ℕ) → at o s.rem i ≡ at o l i
    pub quo_is : (i : ℕ) → at o s.quo i ≡ o.zer

  pub divide_low : (u : A) (b l : List A) → Oks M l → ((i : ℕ) → length b -ₙ 1 ≤ i → at o l i ≡ o.zer) → Low l (divide o u b l)
  divide_low u b l k h = record {
    rem_is = λ i. inj _ _ (divide_oks M u b l i) (k i) (divide_low_rem u b l low i);
    quo_is = λ i. inj _ _ (divide_quo_oks M u b l i) ok_zer (divide_low_quo u b l low i ∙ sym φ_zer);
  }
    where
      low : Below R (series M l) (length b -ₙ 1)
      low i p = ap φ (h i p) ∙ φ_zer

  -- where u is 0, so is the quotient
  pub divide_none_quo : (u : A) → φ u ≡ R.zer → (b p : List A) (i : ℕ) → series M (divide o u b p).quo i ≡ R.zer
  unfolding divide put
  divide_none_quo u z b [] i = φ_zer
  divide_none_quo u z b (a ∷ p) zero = φ_mul _ _ ∙ ap (R.mul _) z ∙ mul_zer R _
  divide_none_quo u z b (a ∷ p) (suc i) = divide_none_quo u z b p i
