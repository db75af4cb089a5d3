-- The laws of `pad`, by recursion on its length: lengths, coefficients, one place more, padding again, and
-- that it is undone by `take`.
use Prim.Native.Nat.{ℕ, zero, suc, ◌≤◌, ◌<◌}
use Rattle.std.proofs.Common.{le_of_suc-le-suc, not-suc-le-zero, arith}
use Rattle.std.specs.Prelude.{◌≡◌, length, take}
use Rattle.std.proofs.Math.Path.{refl, ap, ap₂}
use mathlib.Core.List.{List, [], ◌∷◌, ◌++◌}
use Rattle.spec_arithmetic.specs.Field.{Ops}
use Rattle.spec_arithmetic.specs.Polynomials.{at, pad}

module _ {A : Type 0} (o : Ops A) where
  pub length_pad : (k : ℕ) (l : List A) → length (pad o k l) ≡ k
  unfolding pad
  length_pad zero l = refl
  length_pad (suc k) [] = ap suc (length_pad k [])
  length_pad (suc k) (a ∷ l) = ap suc (length_pad k l)

  -- padding adds zeros, and a place that is missing counts as 0
  pub at_pad : (k : ℕ) (l : List A) → length l ≤ k → (i : ℕ) → at o (pad o k l) i ≡ at o l i
  unfolding pad
  at_pad zero [] h i = refl
  at_pad zero (a ∷ l) h i = absurd (not-suc-le-zero h)
  at_pad (suc k) [] h zero = refl
  at_pad (suc k) [] h (suc i) = at_pad k [] (omega arith) i
  at_pad (suc k) (a ∷ l) h zero = refl
  at_pad (suc k) (a ∷ l) h (suc i) = at_pad k l (le_of_suc-le-suc h) i

  -- each of the k places holds its coefficient, 0 past the end
  pub pad_at : (k : ℕ) (l : List A) (i : ℕ) → i < k → at o (pad o k l) i ≡ at o l i
  unfolding pad
  pad_at zero l i h = absurd (omega arith)
  pad_at (suc k) [] zero h = refl
  pad_at (suc k) [] (suc i) h = pad_at k [] i (omega arith)
  pad_at (suc k) (a ∷ l) zero h = refl
  pad_at (suc k) (a ∷ l) (suc i) h = pad_at k l i (omega arith)

  pub take_pad : (k : ℕ) (l : List A) → length l ≤ k → take (length l) (pad o k l) ≡ l
  unfolding pad
  take_pad zero [] h = refl
  take_pad zero (a ∷ l) h = absurd (not-suc-le-zero h)
  take_pad (suc k) [] h = refl
  take_pad (suc k) (a ∷ l) h = ap (λ t. a ∷ t) (take_pad k l (le_of_suc-le-suc h))

  -- one place more
  pub pad_suc : (k : ℕ) (l : List A) → pad o (suc k) l ≡ pad o k l ++ (at o l k ∷ [])
  unfolding pad
  pad_suc zero [] = refl
  pad_suc zero (a ∷ l) = refl
  pad_suc (suc k) [] = ap (λ t. o.zer ∷ t) (pad_suc k [])
  pad_suc (suc k) (a ∷ l) = ap (λ t. a ∷ t) (pad_suc k l)

  -- fewer places of more
  pub pad_pad : (k n : ℕ) (l : List A) → k ≤ n → pad o k (pad o n l) ≡ pad o k l
  unfolding pad
  pad_pad zero n l h = refl
  pad_pad (suc k) zero l h = absurd (omega arith)
  pad_pad (suc k) (suc n) [] h = ap (λ t. o.zer ∷ t) (pad_pad k n [] (omega arith))
  pad_pad (suc k) (suc n) (a ∷ l) h = ap (λ t. a ∷ t) (pad_pad k n l (omega arith))

  zeros : (k : ℕ) (c : List A) → length c ≡ k → ((i : ℕ) → at o c i ≡ o.zer) → c ≡ pad o k []
  unfolding pad
  zeros zero [] e h = refl
  zeros zero (a ∷ c) e h = absurd (omega arith)
  zeros (suc k) [] e h = absurd (omega arith)
  zeros (suc k) (a ∷ c) e h = ap₂ (λ x t. x ∷ t) (h 0) (zeros k c (omega arith) (λ i. h (suc i)))

  -- zeros from n on are what padding puts there
  pub pad_take : (k n : ℕ) (c : List A) → length c ≡ k → ((i : ℕ) → n ≤ i → at o c i ≡ o.zer) → c ≡ pad o k (take n c)
  unfolding pad
  pad_take k zero c e h = zeros k c e (λ i. h i (omega arith))
  pad_take zero (suc n) [] e h = refl
  pad_take zero (suc n) (a ∷ c) e h = absurd (omega arith)
  pad_take (suc k) (suc n) [] e h = absurd (omega arith)
  pad_take (suc k) (suc n) (a ∷ c) e h = ap (λ t. a ∷ t) (pad_take k n c (omega arith) (λ i p. h (suc i) (omega arith)))
