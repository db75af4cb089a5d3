-- The pairs u + v·w over a commutative ring, w² = ν, are a commutative ring. Each law is a ring identity in
-- each of the two places.
use Rattle.std.specs.Prelude.{◌≡◌, [], ◌∷◌}
use Rattle.std.proofs.Common.{ap₂}
use Rattle.math_ring.specs.Ring.{CRing}
use Rattle.math_ring.specs.Identity.{ring, quote}

-- u + v·w, by its two coordinates
abbrev pub Pair : Type 0 → Type 0
Pair A = A × A

pub pair_path : {A : Type 0} {a b c d : A} → a ≡ b → c ≡ d → ◌≡◌ {A = Pair A} (a, c) (b, d)
pair_path {A} h k = ap₂ (λ (x : A) (y : A). (x, y)) h k

module _ {A : Type 0} (R : CRing A) where
  -- an element of the ring as a pair
  abbrev pub embed : A → Pair A
  embed a = (a, R.zer)

  abbrev pub w : Pair A
  w = (R.zer, R.one)

module _ {A : Type 0} (R : CRing A) (ν : A) where
  open R use {add as ◌+◌, mul as ◌*◌, neg as -◌, zer as 𝟘, one as 𝟙}

  infixl 6 ◌+◌
  infixl 7 ◌*◌
  infix 8 -◌
  unfoldable pub add_p : Pair A → Pair A → Pair A
  add_p x y = (x.0 + y.0, x.1 + y.1)

  -- (u + v·w)·(u' + v'·w) = u·u' + ν·v·v' + (u·v' + v·u')·w
  unfoldable pub mul_p : Pair A → Pair A → Pair A
  mul_p x y = (x.0 * y.0 + ν * (x.1 * y.1), x.0 * y.1 + x.1 * y.0)

  unfoldable pub neg_p : Pair A → Pair A
  neg_p x = (- x.0, - x.1)

  pub add_p_assoc : (x y z : Pair A) → add_p (add_p x y) z ≡ add_p x (add_p y z)
  unfolding add_p
  add_p_assoc x y z = pair_path (R.add_assoc _ _ _) (R.add_assoc _ _ _)

  pub add_p_comm : (x y : Pair A) → add_p x y ≡ add_p y x
  unfolding add_p
  add_p_comm x y = pair_path (R.add_comm _ _) (R.add_comm _ _)

  pub add_p_zer : (x : Pair A) → add_p x (embed R 𝟘) ≡ x
  unfolding add_p
  add_p_zer x = pair_path (R.add_zer _) (R.add_zer _)

  pub add_p_neg : (x : Pair A) → add_p x (neg_p x) ≡ embed R 𝟘
  unfolding add_p neg_p
  add_p_neg x = pair_path (R.add_neg _) (R.add_neg _)

  pub mul_p_assoc : (x y z : Pair A) → mul_p (mul_p x y) z ≡ mul_p x (mul_p y z)
  unfolding mul_p
  mul_p_assoc x y z = pair_path
      (ring R (ν ∷ x.0 ∷ x.1 ∷ y.0 ∷ y.1 ∷ z.0 ∷ z.1 ∷ []) (search quote depth 40 fits 9999) tt)
      (ring R (ν ∷ x.0 ∷ x.1 ∷ y.0 ∷ y.1 ∷ z.0 ∷ z.1 ∷ []) (search quote depth 40 fits 9999) tt)

  pub mul_p_comm : (x y : Pair A) → mul_p x y ≡ mul_p y x
  unfolding mul_p
  mul_p_comm x y = pair_path
      (ring R (ν ∷ x.0 ∷ x.1 ∷ y.0 ∷ y.1 ∷ []) (search quote depth 40 fits 9999) tt)
      (ring R (ν ∷ x.0 ∷ x.1 ∷ y.0 ∷ y.1 ∷ []) (search quote depth 40 fits 9999) tt)

  pub mul_p_one : (x : Pair A) → mul_p x (embed R 𝟙) ≡ x
  unfolding mul_p
  mul_p_one x = pair_path
      (ring R (ν ∷ x.0 ∷ x.1 ∷ []) (search quote depth 40 fits 9999) tt)
      (ring R (ν ∷ x.0 ∷ x.1 ∷ []) (search quote depth 40 fits 9999) tt)

  pub mul_p_add : (x y z : Pair A) → mul_p x (add_p y z) ≡ add_p (mul_p x y) (mul_p x z)
  unfolding mul_p add_p
  mul_p_add x y z = pair_path
      (ring R (ν ∷ x.0 ∷ x.1 ∷ y.0 ∷ y.1 ∷ z.0 ∷ z.1 ∷ []) (search quote depth 40 fits 9999) tt)
      (ring R (ν ∷ x.0 ∷ x.1 ∷ y.0 ∷ y.1 ∷ z.0 ∷ z.1 ∷ []) (search quote depth 40 fits 9999) tt)

  abbrev pub Pairs : CRing (Pair A)
  Pairs = record {
    add = add_p;
    mul = mul_p;
    neg = neg_p;
    zer = embed R 𝟘;
    one = embed R 𝟙;
    add_assoc = add_p_assoc;
    add_comm = add_p_comm;
    add_zer = add_p_zer;
    add_neg = add_p_neg;
    mul_assoc = mul_p_assoc;
    mul_comm = mul_p_comm;
    mul_one = mul_p_one;
    mul_add = mul_p_add;
  }
