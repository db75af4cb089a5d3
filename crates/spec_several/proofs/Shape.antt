-- The proofs of specs/Shape.
use Prim.Native.Nat.{ℕ, zero, suc, ◌+◌, ◌-◌, ◌≤◌, ◌<◌}
use Rattle.std.proofs.Common.{eq-or-lt_of_le, arith, sym, ◌∙◌, ⊎_elim, true≢false}
use Rattle.std.specs.Prelude.{◌≡◌, refl, Bool, true, ◌||◌, List, map, eqb, get_or}
use Rattle.std.proofs.Math.Path.{ap}
use Rattle.std.proofs.Math.Bool.{false, not}
use Rattle.std.proofs.lemmas.Bool.{false≢true, or_parts}
use Rattle.std.proofs.Math.Dec.{ltb}
use Rattle.std.proofs.Math.ListN.{length}
use borrow.Author.Tests.{ltb-false, le-ltb, eqb-true, eq-eqb, not-false}
use Rattle.math_ring.specs.Order.{le_or_lt}
use Rattle.spec_arithmetic.specs.Words.{kind, same}
use Rattle.spec_lists.specs.Kinds.{kinds_same, kinds_right}
use Rattle.spec_sentences.specs.Sentences.{kind_at, value_at}
use Rattle.spec_sentences.specs.Tests.{Tests}
use Rattle.spec_several.specs.Several.{most_primes, several_kinds, degree_of, prime_count, wrong_shape}
use Rattle.spec_several.proofs.KindWords.{kinds_length, kinds_first, kinds_coefficient, kinds_budget, kinds_prime, kinds_end}
use Rattle.spec_several.specs.Shape.{RightShape, Shape}

-- ---- the proof
both_false : (s t : Bool) → s ≡ false → t ≡ false → (s || t) ≡ false
both_false true t e f = absurd (true≢false e)
both_false false t e f = f

module _ (w : List ℕ) where
  abbrev n : ℕ
  n = value_at w 0

  pub right_shape : wrong_shape w ≡ false → RightShape w (prime_count w)
  unfolding wrong_shape degree_of prime_count
  right_shape e = record {
    some = omega (arith, low, high);
    most = omega (arith, low, high);
    words = omega (arith, low);
    first = at 0 2 (kinds_first n k);
    coefficients = λ i low high. at i 12 (kinds_coefficient n k i low high);
    budget = at (n + 2) 4 (kinds_budget n k (n + 2) (omega arith));
    prime_words = λ i low high. at i 1 (kinds_prime n k i low high);
    end_kind = at (n + 3 + k) 15 (kinds_end n k (n + 3 + k) (omega arith));
    end_count = ap (value_at w) (sym before) ∙ count ∙ before;
  }
    where
      k : ℕ
      k = length w - (n + 4)

      wrong_count : Bool
      wrong_count = ltb (length w) (n + 5) || ltb (n + 4 + most_primes) (length w)

      wrong_kinds : Bool
      wrong_kinds = not (same (map kind w) (several_kinds n k))

      parts : ((wrong_count || wrong_kinds) ≡ false) × (not (eqb (value_at w (length w - 1)) (length w - 1)) ≡ false)
      parts = or_parts _ _ e

      front : (wrong_count ≡ false) × (wrong_kinds ≡ false)
      front = or_parts _ _ parts.0

      low : n + 5 ≤ length w
      low = ltb-false _ _ (or_parts _ _ front.0).0

      high : length w ≤ n + 4 + most_primes
      high = ltb-false _ _ (or_parts (ltb (length w) (n + 5)) _ front.0).1

      at : (i c : ℕ) → get_or (several_kinds n k) i 0 ≡ c → kind_at w i ≡ c
      at i c f = kinds_same w (several_kinds n k) (not-false _ front.1) i ∙ f

      before : length w - 1 ≡ n + 3 + k
      before = omega (arith, low)

      count : value_at w (length w - 1) ≡ length w - 1
      count = eqb-true _ _ (not-false _ parts.1)

  -- there is no choice of k
  pub count_primes : {k : ℕ} → RightShape w k → prime_count w ≡ k
  unfolding prime_count degree_of
  count_primes r = omega (arith, r.words)

  -- the kinds of words of the shape
  right_shape_kinds : {k : ℕ} → RightShape w k → same (map kind w) (several_kinds n k) ≡ true
  right_shape_kinds {k} r = kinds_right w (several_kinds n k) (r.words ∙ sym (kinds_length n k)) (λ i h. place i (omega (arith, r.words)))
    where
      after_budget : (i : ℕ) → n + 2 < i → i < n + 4 + k → kind_at w i ≡ get_or (several_kinds n k) i 0
      after_budget i low high = ⊎_elim
          (λ (e : suc i ≡ n + 4 + k).
          let f : i ≡ n + 3 + k = omega arith in ap (kind_at w) f ∙ r.end_kind ∙ sym (kinds_end n k i f))
          (λ (l : suc i < n + 4 + k).
          r.prime_words i (omega arith) (omega arith) ∙ sym (kinds_prime n k i (omega arith) (omega arith)))
          (eq-or-lt_of_le high)

      place : (i : ℕ) → i < n + 4 + k → kind_at w i ≡ get_or (several_kinds n k) i 0
      place zero high = r.first ∙ sym (kinds_first n k)
      place (suc i) high = ⊎_elim
          (λ l. ⊎_elim
          (λ (e : n + 2 ≡ suc i). ap (kind_at w) (sym e) ∙ r.budget ∙ sym (kinds_budget n k (suc i) (sym e)))
          (λ (m : n + 2 < suc i). after_budget (suc i) m high)
          (eq-or-lt_of_le l))
          (λ l.
          let h : suc i ≤ n + 1 = omega arith in
          r.coefficients (suc i) (omega arith) h ∙ sym (kinds_coefficient n k (suc i) (omega arith) h))
          (le_or_lt (n + 2) (suc i))

  pub shape_passes : {k : ℕ} → RightShape w k → wrong_shape w ≡ false
  unfolding wrong_shape degree_of
  shape_passes {k} r =
      both_false _ _ (both_false _ _ (both_false _ _ low high) (ap not kinds)) (ap not (eq-eqb _ _ count))
    where
      low : ltb (length w) (n + 5) ≡ false
      low = le-ltb (length w) (n + 5) (omega (arith, r.words, r.some))

      high : ltb (n + 4 + most_primes) (length w) ≡ false
      high = le-ltb (n + 4 + most_primes) (length w) (omega (arith, r.words, r.most))

      kinds : same (map kind w) (several_kinds n (prime_count w)) ≡ true
      kinds = ap (λ (j : ℕ). same (map kind w) (several_kinds n j)) (count_primes r) ∙ right_shape_kinds r

      count : value_at w (length w - 1) ≡ length w - 1
      count = let e : length w - 1 ≡ n + 3 + k = omega (arith, r.words) in ap (value_at w) e ∙ r.end_count ∙ sym e

pub shape : Shape
shape w = go (wrong_shape w) (right_shape w) (λ k. shape_passes w)
  where
    go :
        (b : Bool) → (b ≡ false → RightShape w (prime_count w)) → ((k : ℕ) → RightShape w k → b ≡ false) →
        Tests b ((k : ℕ) → ¬ RightShape w k)
    go true f g = (λ e k r. true≢false (g k r), λ h. refl)
    go false f g = (λ e. absurd (false≢true e), λ h. absurd (h (prime_count w) (f refl)))
