-- The binomial theorem over a commutative ring, with the coefficients in the ring and by Pascal's rule.
-- A sum of a^j b^(n - j) over j is the coefficient at n of a product of two series, so no sum is defined here.
use Prim.Native.Nat.{ℕ, zero, suc, ◌<◌}
use Rattle.std.proofs.Common.{arith, ap, ◌∙◌}
use Rattle.std.specs.Prelude.{◌≡◌}
use Rattle.std.proofs.Math.Path.{refl, ap₂, fun_ext}
use mathlib.Core.List.{[], ◌∷◌}
use Rattle.math_ring.specs.Ring.{CRing}
use Rattle.math_ring.specs.Identity.{ring, ring_from, times, plus, quote}
use Rattle.math_ring.specs.Series.{S, add_s, conv, tail, conv_r, conv_addˡ, conv_scaleˡ, conv_comm}
use Rattle.math_algebra.specs.Multiple.{natural, power}

module _ {A : Type 0} (R : CRing A) where
  open R use {add as ◌+◌, mul as ◌*◌, zer as 𝟘, one as 𝟙, add_zer}

  infixl 6 ◌+◌
  infixl 7 ◌*◌
  -- n over j, as a multiple of 1
  unfoldable pub choose : ℕ → ℕ → A
  choose n zero = 𝟙
  choose zero (suc j) = 𝟘
  choose (suc n) (suc j) = choose n j + choose n (suc j)

  pub choose_past : (n j : ℕ) → n < j → choose n j ≡ 𝟘
  unfolding choose
  choose_past n zero h = absurd (omega arith)
  choose_past zero (suc j) h = refl
  choose_past (suc n) (suc j) h = ap₂ ◌+◌ (choose_past n j (omega arith)) (choose_past n (suc j) (omega arith)) ∙ add_zer 𝟘

  pub choose_self : (n : ℕ) → choose n n ≡ 𝟙
  unfolding choose
  choose_self zero = refl
  choose_self (suc n) = ap₂ ◌+◌ (choose_self n) (choose_past n (suc n) (omega arith)) ∙ add_zer 𝟙

  -- (j + 1) C(n + 1, j + 1) = (n + 1) C(n, j)
  pub choose_absorb : (n j : ℕ) → natural R (suc j) * choose (suc n) (suc j) ≡ natural R (suc n) * choose n j
  unfolding choose natural
  choose_absorb zero zero = ring R [] (search quote depth 40 fits 9999) tt
  choose_absorb zero (suc j) = ring R (natural R j ∷ []) (search quote depth 40 fits 9999) tt
  choose_absorb (suc n) zero = step (choose_absorb n zero)
    where
      step : (𝟘 + 𝟙) * (𝟙 + choose n 1) ≡ (natural R n + 𝟙) * 𝟙 → (𝟘 + 𝟙) * (𝟙 + (𝟙 + choose n 1)) ≡ (natural R n + 𝟙 + 𝟙) * 𝟙
      step h = ring_from R (natural R n ∷ choose n 1 ∷ []) (times R 𝟙 h) (search quote depth 40 fits 9999) tt
  choose_absorb (suc n) (suc j) = step (choose n j) (choose n (suc j)) (choose n (suc (suc j))) (choose_absorb n j) (choose_absorb n (suc j))
    where
      step : (a b c : A) → (natural R j + 𝟙) * (a + b) ≡ (natural R n + 𝟙) * a → (natural R j + 𝟙 + 𝟙) * (b + c) ≡ (natural R n + 𝟙) * b
          → (natural R j + 𝟙 + 𝟙) * ((a + b) + (b + c)) ≡ (natural R n + 𝟙 + 𝟙) * (a + b)
      step a b c h k = ring_from R (natural R n ∷ natural R j ∷ a ∷ b ∷ c ∷ []) (plus R (times R 𝟙 h) (times R 𝟙 k)) (search quote depth 40 fits 9999) tt

  -- the terms C(n, j) a^j, and the powers of b
  unfoldable pub terms : A → ℕ → S R
  terms a n = λ j. choose n j * power R a j

  unfoldable pub powers : A → S R
  powers b = λ k. power R b k

  terms_tail : (a : A) (n : ℕ) → tail R (terms a (suc n)) ≡ add_s R (λ j. a * terms a n j) (tail R (terms a n))
  unfolding terms choose power add_s
  terms_tail a n = fun_ext (λ j. ring R (a ∷ power R a j ∷ choose n j ∷ choose n (suc j) ∷ []) (search quote depth 40 fits 9999) tt)

  -- (a + b)^n is the sum of C(n, j) a^j b^(n - j) over j ≤ n
  pub binomial : (a b : A) (n : ℕ) → power R (a + b) n ≡ conv R (terms a n) (powers b) n
  unfolding power conv terms powers choose
  binomial a b zero = ring R [] (search quote depth 40 fits 9999) tt
  binomial a b (suc n) = step (binomial a b n) first last
    where
      x : A
      x = conv R (terms a n) (powers b) n

      y : A
      y = conv R (tail R (terms a n)) (powers b) n

      first : conv R (tail R (terms a (suc n))) (powers b) n ≡ a * x + y
      first = ap (λ (u : S R). conv R u (powers b) n) (terms_tail a n) ∙ conv_addˡ R (λ j. a * terms a n j) (tail R (terms a n)) (powers b) n ∙ ap (λ t. t + y) (conv_scaleˡ R a (terms a n) (powers b) n)

      last : conv R (terms a n) (powers b) (suc n) ≡ b * x
      last = conv_r R (terms a n) (powers b) n ∙ ap₂ ◌+◌ (conv_comm R (terms a n) (tail R (powers b)) n ∙ conv_scaleˡ R b (powers b) (terms a n) n ∙ ap (λ t. b * t) (conv_comm R (powers b) (terms a n) n)) (ap (λ t. t * power R a (suc n) * 𝟙) (choose_past n (suc n) (omega arith)) ∙ ring R (power R a n ∷ a ∷ []) (search quote depth 40 fits 9999) tt) ∙ add_zer (b * x)

      step : power R (a + b) n ≡ x → conv R (tail R (terms a (suc n))) (powers b) n ≡ a * x + y → (𝟙 * 𝟙) * (b * power R b n) + y ≡ b * x
          → (a + b) * power R (a + b) n ≡ (𝟙 * 𝟙) * (b * power R b n) + conv R (tail R (terms a (suc n))) (powers b) n
      step h k l = ring_from R (a ∷ b ∷ x ∷ y ∷ power R (a + b) n ∷ power R b n ∷ conv R (tail R (terms a (suc n))) (powers b) n ∷ []) (plus R (times R (a + b) h) (plus R (times R (R.neg 𝟙) k) (times R (R.neg 𝟙) l))) (search quote depth 40 fits 9999) tt
