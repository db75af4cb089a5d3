-- In characteristic p the p-th power is additive: by the absorption law p divides the middle coefficients of
-- the binomial theorem. Hence Fermat's theorem, the p-th power of a multiple of 1 is itself.
use Prim.Native.Nat.{ℕ, zero, suc, ◌<◌}
use Rattle.std.proofs.Common.{arith, ap, ◌∙◌}
use Rattle.std.specs.Prelude.{◌≡◌, [], ◌∷◌}
use Rattle.std.proofs.Math.Path.{refl, ap₂}
use Rattle.math_ring.specs.Ring.{CRing, zer_mul}
use Rattle.math_ring.specs.Identity.{ring, quote}
use Rattle.math_ring.specs.Series.{S, conv, tail}
use Rattle.math_algebra.specs.Multiple.{natural, power, power_one, power_zero}
use Rattle.math_algebra.specs.Binomial.{choose, choose_self, choose_absorb, terms, powers, binomial}
use Rattle.math_algebra.specs.Characteristic.{Characteristic}

module _ {A : Type 0} (R : CRing A) where
  open R use {add as ◌+◌, mul as ◌*◌, zer as 𝟘, one as 𝟙}

  infixl 6 ◌+◌
  infixl 7 ◌*◌
  pub choose_middle : (p : ℕ) → Characteristic R p → (j : ℕ) → 0 < j → j < p → choose R p j ≡ 𝟘
  choose_middle zero c j h l = absurd (omega arith)
  choose_middle (suc n) c zero h l = absurd (omega arith)
  choose_middle (suc n) c (suc j) h l = c.cancels (suc j) h l (choose R (suc n) (suc j)) (choose_absorb R n j ∙ ap (λ t. t * choose R n j) c.vanishes ∙ zer_mul R (choose R n j))

  -- a product's coefficient at n, where the first factor is 0 below n
  conv_last : (u v : S R) (n : ℕ) → ((j : ℕ) → j < n → u j ≡ 𝟘) → conv R u v n ≡ u n * v 0
  unfolding conv
  conv_last u v zero h = refl
  conv_last u v (suc n) h = ap₂ (λ s t. s * v (suc n) + t) (h 0 (omega arith)) (conv_last (tail R u) v n (λ j l. h (suc j) (omega arith))) ∙ ring R (v (suc n) ∷ u (suc n) ∷ v 0 ∷ []) (search quote depth 40 fits 9999) tt

  pub frobenius : (p : ℕ) → Characteristic R p → (a b : A) → power R (a + b) p ≡ power R a p + power R b p
  frobenius zero c a b = absurd (omega (arith, c.positive))
  frobenius (suc n) c a b = binomial R a b (suc n) ∙ ends ∙ ap (λ t. (𝟙 * 𝟙) * power R b (suc n) + t) rest ∙ ring R (power R a (suc n) ∷ power R b (suc n) ∷ []) (search quote depth 40 fits 9999) tt
    where
      ends : conv R (terms R a (suc n)) (powers R b) (suc n) ≡ (𝟙 * 𝟙) * power R b (suc n) + conv R (tail R (terms R a (suc n))) (powers R b) n
      ends = unfold conv terms powers choose power in refl

      at : (j : ℕ) → terms R a (suc n) j ≡ choose R (suc n) j * power R a j
      at j = unfold terms in refl

      first : powers R b 0 ≡ 𝟙
      first = unfold powers power in refl

      rest : conv R (tail R (terms R a (suc n))) (powers R b) n ≡ power R a (suc n)
      rest = conv_last (tail R (terms R a (suc n))) (powers R b) n (λ j l. at (suc j) ∙ ap (λ t. t * power R a (suc j)) (choose_middle (suc n) c (suc j) (omega arith) (omega arith)) ∙ zer_mul R (power R a (suc j))) ∙ ap₂ ◌*◌ (at (suc n) ∙ ap (λ t. t * power R a (suc n)) (choose_self R (suc n))) first ∙ ring R (power R a (suc n) ∷ []) (search quote depth 40 fits 9999) tt

  pub fermat : (p : ℕ) → Characteristic R p → (n : ℕ) → power R (natural R n) p ≡ natural R n
  unfolding natural
  fermat p c zero = power_zero R p c.positive
  fermat p c (suc n) = frobenius p c (natural R n) 𝟙 ∙ ap₂ ◌+◌ (fermat p c n) (power_one R p)
