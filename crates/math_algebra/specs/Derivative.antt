-- The derivative of a series, coefficient by coefficient. The product rule rests on the operator f ↦ x f',
-- which multiplies the coefficient at i by i.
use Prim.Native.Nat.{ℕ, zero, suc, suc-le-suc}
use Rattle.std.specs.Prelude.{◌≡◌, [], ◌∷◌}
use Rattle.std.proofs.Math.Path.{refl, ap, ap₂, fun_ext}
use Rattle.std.proofs.Common.{◌∙◌}
use Rattle.math_ring.specs.Ring.{CRing, mul_zer, zer_mul}
use Rattle.math_ring.specs.Identity.{ring, ring_from, times, plus, quote}
use Rattle.math_ring.specs.Series.{S, add_s, conv, zer_s, tail, conv_r, conv_addˡ}
use Rattle.math_ring.specs.Degree.{Below}
use Rattle.math_algebra.specs.Multiple.{natural}

module _ {A : Type 0} (F : CRing A) where
  open F use {add as ◌+◌, mul as ◌*◌, zer as 𝟘, one as 𝟙}

  infixl 6 ◌+◌
  infixl 7 ◌*◌
  -- x f'
  unfoldable pub euler : S F → S F
  euler f = λ i. natural F i * f i

  -- f'
  unfoldable pub derivative : S F → S F
  derivative f = tail F (euler f)

  pub derivative_at : (f : S F) (i : ℕ) → derivative f i ≡ natural F (suc i) * f (suc i)
  unfolding derivative euler
  derivative_at f i = refl

  -- what is 0 has no coefficient times its exponent either
  pub derivative_none : (f : S F) → derivative f ≡ zer_s F → (i : ℕ) → natural F i * f i ≡ 𝟘
  unfolding derivative euler zer_s natural
  derivative_none f e zero = zer_mul F (f 0)
  derivative_none f e (suc i) = ap (λ (g : S F). g i) e

  euler_tail : (f : S F) → tail F (euler f) ≡ add_s F (euler (tail F f)) (tail F f)
  unfolding euler add_s natural
  euler_tail f = fun_ext (λ i. ring F (natural F i ∷ f (suc i) ∷ []) (search quote depth 40 fits 9999) tt)

  euler_mul : (f g : S F) (n : ℕ) → natural F n * conv F f g n ≡ conv F (euler f) g n + conv F f (euler g) n
  unfolding conv euler natural
  euler_mul f g zero = ring F (f 0 ∷ g 0 ∷ []) (search quote depth 40 fits 9999) tt
  euler_mul f g (suc n) = step (euler_mul (tail F f) g n) (ap (λ (u : S F). conv F u g n) (euler_tail f) ∙ conv_addˡ F (euler (tail F f)) (tail F f) g n)
    where
      step : natural F n * conv F (tail F f) g n ≡ conv F (euler (tail F f)) g n + conv F (tail F f) (euler g) n
          → conv F (tail F (euler f)) g n ≡ conv F (euler (tail F f)) g n + conv F (tail F f) g n
          → (natural F n + 𝟙) * (f 0 * g (suc n) + conv F (tail F f) g n) ≡ ((𝟘 * f 0) * g (suc n) + conv F (tail F (euler f)) g n) + (f 0 * ((natural F n + 𝟙) * g (suc n)) + conv F (tail F f) (euler g) n)
      step h k = ring_from F (natural F n ∷ f 0 ∷ g (suc n) ∷ conv F (tail F f) g n ∷ conv F (euler (tail F f)) g n ∷ conv F (tail F f) (euler g) n ∷ conv F (tail F (euler f)) g n ∷ []) (plus F (times F 𝟙 h) (times F (F.neg 𝟙) k)) (search quote depth 40 fits 9999) tt

  -- (f g)' = f' g + f g'
  pub derivative_mul : (f g : S F) → derivative (conv F f g) ≡ add_s F (conv F (derivative f) g) (conv F f (derivative g))
  unfolding derivative add_s euler
  derivative_mul f g = fun_ext (λ n. euler_mul f g (suc n) ∙ ap₂ ◌+◌ (left n) (right n))
    where
      left : (n : ℕ) → conv F (euler f) g (suc n) ≡ conv F (tail F (euler f)) g n
      left n = unfold conv euler natural in ring F (f 0 ∷ g (suc n) ∷ conv F (tail F (euler f)) g n ∷ []) (search quote depth 40 fits 9999) tt

      right : (n : ℕ) → conv F f (euler g) (suc n) ≡ conv F f (tail F (euler g)) n
      right n = conv_r F f (euler g) n ∙ unfold euler natural in ring F (f (suc n) ∷ g 0 ∷ conv F f (tail F (euler g)) n ∷ []) (search quote depth 40 fits 9999) tt

  pub derivative_low : (f : S F) (n : ℕ) → Below F f (suc n) → Below F (derivative f) n
  unfolding derivative euler
  derivative_low f n h i p = ap (λ t. natural F (suc i) * t) (h (suc i) (suc-le-suc p)) ∙ mul_zer F (natural F (suc i))
