-- Multiples of 1 and powers in a commutative ring. The laws go by induction on the number.
use Prim.Native.Nat.{ℕ, zero, suc, ◌+◌ as ◌+ₙ◌, ◌*◌ as ◌*ₙ◌, ◌<◌}
use Rattle.std.proofs.Common.{zero-add as zero-addₙ, suc-add as suc-addₙ, zero-mul as zero-mulₙ, suc-mul as suc-mulₙ, arith, ◌∙◌}
use Rattle.std.specs.Prelude.{◌≡◌, [], ◌∷◌}
use Rattle.std.proofs.Math.Path.{refl, sym, ap}
use Rattle.math_ring.specs.Ring.{CRing, zer_add, one_mul, zer_mul}
use Rattle.math_ring.specs.Identity.{ring, ring_from, times, plus, quote}

module _ {A : Type 0} (R : CRing A) where
  open R use {add as ◌+◌, mul as ◌*◌, zer as 𝟘, one as 𝟙}

  infixl 6 ◌+◌
  infixl 7 ◌*◌
  -- 1 + .. + 1, n times
  unfoldable pub natural : ℕ → A
  natural zero = 𝟘
  natural (suc n) = natural n + 𝟙

  pub natural_add : (m n : ℕ) → natural (m +ₙ n) ≡ natural m + natural n
  unfolding natural
  natural_add zero n = ap natural (zero-addₙ n) ∙ sym (zer_add R (natural n))
  natural_add (suc m) n = ap natural (suc-addₙ m n) ∙ ap (λ t. t + 𝟙) (natural_add m n) ∙ ring R (natural m ∷ natural n ∷ []) (search quote depth 40 fits 9999) tt

  -- where p x = 0, multiples of p do not count before x
  pub natural_drop : (p : ℕ) (x : A) → natural p * x ≡ 𝟘 → (i r : ℕ) → natural (i *ₙ p +ₙ r) * x ≡ natural r * x
  natural_drop p x e zero r = ap (λ t. natural (t +ₙ r) * x) (zero-mulₙ p) ∙ ap (λ t. natural t * x) (zero-addₙ r)
  natural_drop p x e (suc i) r = ap (λ t. natural (t +ₙ r) * x) (suc-mulₙ i p) ∙ ap (λ t. t * x) (natural_add (i *ₙ p +ₙ p) r) ∙ step (natural_drop p x e i p)
    where
      step : natural (i *ₙ p +ₙ p) * x ≡ natural p * x → (natural (i *ₙ p +ₙ p) + natural r) * x ≡ natural r * x
      step h = ring_from R (natural (i *ₙ p +ₙ p) ∷ natural p ∷ natural r ∷ x ∷ []) (plus R (times R 𝟙 h) (times R 𝟙 e)) (search quote depth 40 fits 9999) tt

  unfoldable pub power : A → ℕ → A
  power x zero = 𝟙
  power x (suc n) = x * power x n

  pub power_one : (n : ℕ) → power 𝟙 n ≡ 𝟙
  unfolding power
  power_one zero = refl
  power_one (suc n) = one_mul R (power 𝟙 n) ∙ power_one n

  pub power_zero : (n : ℕ) → 0 < n → power 𝟘 n ≡ 𝟘
  unfolding power
  power_zero zero h = absurd (omega arith)
  power_zero (suc n) h = zer_mul R (power 𝟘 n)
