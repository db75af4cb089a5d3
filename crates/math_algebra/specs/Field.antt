-- A field in which 2 is not 0: a commutative ring, inverses, and a test for 0.
use Rattle.std.specs.Prelude.{◌≡◌, [], ◌∷◌}
use Rattle.std.proofs.Common.{sym, ap, ◌∙◌}
use Rattle.math_ring.specs.Ring.{CRing, zer_mul}
use Rattle.math_ring.specs.Identity.{ring_from, times, plus, quote}

pub record Field (A : Type 0) : Type 0 where
  pub scalars : CRing A
  pub inv : A → A
  pub inv_mul : (a : A) → (a ≡ scalars.zer → ⊥) → scalars.mul (inv a) a ≡ scalars.one
  pub zero? : (a : A) → Dec (a ≡ scalars.zer)
  pub one_not_zero : scalars.one ≡ scalars.zer → ⊥
  pub two_not_zero : scalars.add scalars.one scalars.one ≡ scalars.zer → ⊥

module _ {A : Type 0} (K : Field A) where
  open K.scalars use {mul as ◌*◌, neg as -◌, zer as 𝟘}

  infixl 7 ◌*◌
  infix 8 -◌
  -- there are no divisors of 0
  pub no_zero_divisor : (a b : A) → (b ≡ 𝟘 → ⊥) → a * b ≡ 𝟘 → a ≡ 𝟘
  no_zero_divisor a b h e = ring_from K.scalars (a ∷ b ∷ K.inv b ∷ []) (plus K.scalars (times K.scalars (K.inv b) e) (times K.scalars (- a) (K.inv_mul b h))) (search quote depth 40 fits 9999) tt

  pub some_mul : (a b : A) → (a ≡ 𝟘 → ⊥) → (b ≡ 𝟘 → ⊥) → a * b ≡ 𝟘 → ⊥
  some_mul a b h k e = h (no_zero_divisor a b k e)

  pub mul_cancel : (c a b : A) → (c ≡ 𝟘 → ⊥) → c * a ≡ c * b → a ≡ b
  mul_cancel c a b h e = ring_from K.scalars (a ∷ b ∷ c ∷ K.inv c ∷ []) (plus K.scalars (times K.scalars (K.inv c) e) (times K.scalars (K.scalars.add b (- a)) (K.inv_mul c h))) (search quote depth 40 fits 9999) tt

  pub some_inv : (a : A) → (a ≡ 𝟘 → ⊥) → K.inv a ≡ 𝟘 → ⊥
  some_inv a h e = K.one_not_zero (sym (K.inv_mul a h) ∙ ap (λ b. b * a) e ∙ zer_mul K.scalars a)
