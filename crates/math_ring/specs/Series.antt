-- Power series over a ring, as functions from exponents to coefficients; a polynomial is one that is 0 from
-- some place on. They are a ring again: the product recurses on its first factor.
use Prim.Native.Nat.{ℕ, zero, suc}
use Rattle.std.specs.Prelude.{◌≡◌, [], ◌∷◌}
use Rattle.std.proofs.Math.Path.{refl, sym, ap, ap₂, fun_ext}
use Rattle.std.proofs.Common.{◌∙◌}
use Rattle.math_ring.specs.Ring.{CRing, zer_mul}
use Rattle.math_ring.specs.Identity.{ring, quote}

module _ {A : Type 0} (F : CRing A) where
  open F use {add as ◌+◌, mul as ◌*◌, neg as -◌, zer as 𝟘, one as 𝟙, add_assoc, add_comm, add_zer, add_neg, mul_one, mul_comm}

  infixl 6 ◌+◌
  infixl 7 ◌*◌
  infix 8 -◌
  abbrev pub S : Type 0
  S = ℕ → A

  abbrev pub tail : S → S
  tail f = λ n. f (suc n)

  unfoldable pub add_s : S → S → S
  add_s f g = λ n. f n + g n

  unfoldable pub neg_s : S → S
  neg_s f = λ n. - f n

  unfoldable pub zer_s : S
  zer_s = λ n. 𝟘

  unfoldable pub con : A → S
  con c zero = c
  con c (suc n) = 𝟘

  -- f g at n + 1 is f 0 g (n + 1), and (tail f) g at n
  unfoldable pub conv : S → S → ℕ → A
  conv f g zero = f 0 * g 0
  conv f g (suc n) = f 0 * g (suc n) + conv (tail f) g n

  -- the same from the other end
  pub conv_r : (f g : S) (n : ℕ) → conv f g (suc n) ≡ conv f (tail g) n + f (suc n) * g 0
  unfolding conv
  conv_r f g zero = refl
  conv_r f g (suc n) = ap (λ t. f 0 * g (suc (suc n)) + t) (conv_r (tail f) g n) ∙ sym (add_assoc (f 0 * g (suc (suc n))) (conv (tail f) (tail g) n) (f (suc (suc n)) * g 0))

  pub conv_comm : (f g : S) (n : ℕ) → conv f g n ≡ conv g f n
  unfolding conv
  conv_comm f g zero = mul_comm (f 0) (g 0)
  conv_comm f g (suc n) = conv_r f g n ∙ add_comm (conv f (tail g) n) (f (suc n) * g 0) ∙ ap₂ ◌+◌ (mul_comm (f (suc n)) (g 0)) (conv_comm f (tail g) n)

  pub conv_addˡ : (f g h : S) (n : ℕ) → conv (add_s f g) h n ≡ conv f h n + conv g h n
  unfolding conv add_s
  conv_addˡ f g h zero = ring F (f 0 ∷ g 0 ∷ h 0 ∷ []) (search quote depth 40 fits 9999) tt
  conv_addˡ f g h (suc n) = ap (λ t. (f 0 + g 0) * h (suc n) + t) (conv_addˡ (tail f) (tail g) h n) ∙ ring F (f 0 ∷ g 0 ∷ h (suc n) ∷ conv (tail f) h n ∷ conv (tail g) h n ∷ []) (search quote depth 40 fits 9999) tt

  pub conv_scaleˡ : (c : A) (f h : S) (n : ℕ) → conv (λ k. c * f k) h n ≡ c * conv f h n
  unfolding conv
  conv_scaleˡ c f h zero = ring F (c ∷ f 0 ∷ h 0 ∷ []) (search quote depth 40 fits 9999) tt
  conv_scaleˡ c f h (suc n) = ap (λ t. (c * f 0) * h (suc n) + t) (conv_scaleˡ c (tail f) h n) ∙ ring F (c ∷ f 0 ∷ h (suc n) ∷ conv (tail f) h n ∷ []) (search quote depth 40 fits 9999) tt

  pub conv_assoc : (f g h : S) (n : ℕ) → conv (conv f g) h n ≡ conv f (conv g h) n
  unfolding conv add_s
  conv_assoc f g h zero = ring F (f 0 ∷ g 0 ∷ h 0 ∷ []) (search quote depth 40 fits 9999) tt
  conv_assoc f g h (suc n) =
      ap (λ t. (f 0 * g 0) * h (suc n) + t) (conv_addˡ (λ k. f 0 * g (suc k)) (conv (tail f) g) h n ∙ ap₂ ◌+◌ (conv_scaleˡ (f 0) (tail g) h n) (conv_assoc (tail f) g h n))
      ∙ ring F (f 0 ∷ g 0 ∷ h (suc n) ∷ conv (tail g) h n ∷ conv (tail f) (conv g h) n ∷ []) (search quote depth 40 fits 9999) tt

  pub conv_zeroˡ : (h : S) (n : ℕ) → conv zer_s h n ≡ 𝟘
  unfolding conv zer_s
  conv_zeroˡ h zero = zer_mul F (h 0)
  conv_zeroˡ h (suc n) = ap₂ ◌+◌ (zer_mul F (h (suc n))) (conv_zeroˡ h n) ∙ add_zer 𝟘

  pub conv_con : (c : A) (h : S) (n : ℕ) → conv (con c) h n ≡ c * h n
  unfolding conv con zer_s
  conv_con c h zero = refl
  conv_con c h (suc n) = ap (λ t. c * h (suc n) + t) (conv_zeroˡ h n) ∙ add_zer (c * h (suc n))

  pub add_s_assoc : (f g h : S) → add_s (add_s f g) h ≡ add_s f (add_s g h)
  unfolding add_s
  add_s_assoc f g h = fun_ext (λ n. add_assoc (f n) (g n) (h n))

  pub add_s_comm : (f g : S) → add_s f g ≡ add_s g f
  unfolding add_s
  add_s_comm f g = fun_ext (λ n. add_comm (f n) (g n))

  pub add_s_zer : (f : S) → add_s f zer_s ≡ f
  unfolding add_s zer_s
  add_s_zer f = fun_ext (λ n. add_zer (f n))

  pub add_s_neg : (f : S) → add_s f (neg_s f) ≡ zer_s
  unfolding add_s zer_s neg_s
  add_s_neg f = fun_ext (λ n. add_neg (f n))

  pub conv_one : (f : S) → conv f (con 𝟙) ≡ f
  conv_one f = fun_ext (λ n. conv_comm f (con 𝟙) n ∙ conv_con 𝟙 f n ∙ mul_comm 𝟙 (f n) ∙ mul_one (f n))

  pub conv_add : (f g h : S) → conv f (add_s g h) ≡ add_s (conv f g) (conv f h)
  unfolding add_s
  conv_add f g h = fun_ext (λ n. conv_comm f (add_s g h) n ∙ conv_addˡ g h f n ∙ ap₂ ◌+◌ (conv_comm g f n) (conv_comm h f n))

  abbrev pub Series : CRing S
  Series = record {
    add = add_s;
    mul = conv;
    neg = neg_s;
    zer = zer_s;
    one = con 𝟙;
    add_assoc = add_s_assoc;
    add_comm = add_s_comm;
    add_zer = add_s_zer;
    add_neg = add_s_neg;
    mul_assoc = λ f g h. fun_ext (conv_assoc f g h);
    mul_comm = λ f g. fun_ext (conv_comm f g);
    mul_one = conv_one;
    mul_add = conv_add;
  }
