-- The pairs u + v·w over a field in which ν is no square are a field. (u + v·w)·(u − v·w) is the norm u² −
-- ν·v², which is 0 for u = v = 0 only: otherwise ν would be (u/v)².
use Rattle.std.specs.Prelude.{◌≡◌, [], ◌∷◌}
use Rattle.std.proofs.Common.{ap}
use Rattle.math_ring.specs.Identity.{ring, ring_from, times, plus, quote}
use Rattle.math_algebra.specs.Field.{Field, no_zero_divisor}
use Rattle.math_quadratic.specs.Pairs.{Pair, pair_path, add_p, mul_p, embed, Pairs}

module _ {A : Type 0} (K : Field A) (ν : A) where
  open K.scalars use {add as ◌+◌, mul as ◌*◌, neg as -◌, zer as 𝟘, one as 𝟙}

  infixl 6 ◌+◌
  infixl 7 ◌*◌
  infix 8 -◌
  -- ν is no element's square
  abbrev pub NonSquare : Type 0
  NonSquare = (a : A) → a * a ≡ ν → ⊥

  unfoldable pub norm : Pair A → A
  norm x = x.0 * x.0 + - (ν * (x.1 * x.1))

  -- (u − v·w) / norm
  unfoldable pub inv_p : Pair A → Pair A
  inv_p x = (x.0 * K.inv (norm x), - x.1 * K.inv (norm x))

  -- only 0 has the norm 0
  abbrev pub NormZero : Type 0
  NormZero = NonSquare → (x : Pair A) → norm x ≡ 𝟘 → x ≡ embed K.scalars 𝟘

  -- ---- the proof
  -- a norm of 0 with v ≠ 0: (u/v)² = ν
  ratio : (u v : A) → (v ≡ 𝟘 → ⊥) → u * u + - (ν * (v * v)) ≡ 𝟘 → (K.inv v * u) * (K.inv v * u) ≡ ν
  ratio u v h e = ring_from K.scalars (u ∷ v ∷ ν ∷ K.inv v ∷ []) (plus K.scalars (times K.scalars (K.inv v * K.inv v) e) (times K.scalars (ν * (K.inv v * v + 𝟙)) (K.inv_mul v h))) (search quote depth 40 fits 9999) tt

  pub norm_zero : NormZero
  unfolding norm
  norm_zero n x e = elim (K.zero? x.1) [ yes v ↦ pair_path (first v) v | no v ↦ absurd (n _ (ratio x.0 x.1 v e)) ]
    where
      square : x.1 ≡ 𝟘 → x.0 * x.0 ≡ 𝟘
      square v = ring_from K.scalars (x.0 ∷ x.1 ∷ ν ∷ []) (plus K.scalars (times K.scalars 𝟙 e) (times K.scalars (ν * x.1) v)) (search quote depth 40 fits 9999) tt

      first : x.1 ≡ 𝟘 → x.0 ≡ 𝟘
      first v = elim (K.zero? x.0) [ yes u ↦ u | no u ↦ no_zero_divisor K x.0 x.0 u (square v) ]

  pub inv_p_mul : NonSquare → (x : Pair A) → (x ≡ embed K.scalars 𝟘 → ⊥) → mul_p K.scalars ν (inv_p x) x ≡ embed K.scalars 𝟙
  unfolding inv_p mul_p norm
  inv_p_mul n x h = pair_path
      (ring_from K.scalars (x.0 ∷ x.1 ∷ ν ∷ K.inv (norm x) ∷ []) (times K.scalars 𝟙 (K.inv_mul (norm x) (λ z. h (norm_zero n x z)))) (search quote depth 40 fits 9999) tt)
      (ring K.scalars (x.0 ∷ x.1 ∷ K.inv (norm x) ∷ []) (search quote depth 40 fits 9999) tt)

  pub zero_p? : (x : Pair A) → Dec (x ≡ embed K.scalars 𝟘)
  zero_p? x = elim (K.zero? x.0) [
    | yes u ↦ elim (K.zero? x.1) [ yes v ↦ yes (pair_path u v) | no v ↦ no (λ e. v (ap (λ (y : Pair A). y.1) e)) ]
    | no u ↦ no (λ e. u (ap (λ (y : Pair A). y.0) e))
  ]

  pub two_p_not_zero : add_p K.scalars ν (embed K.scalars 𝟙) (embed K.scalars 𝟙) ≡ embed K.scalars 𝟘 → ⊥
  unfolding add_p
  two_p_not_zero e = K.two_not_zero (ap (λ (y : Pair A). y.0) e)

  -- ---- the field
  abbrev pub extension : NonSquare → Field (Pair A)
  extension n = record {
    scalars = Pairs K.scalars ν;
    inv = inv_p;
    inv_mul = inv_p_mul n;
    zero? = zero_p?;
    one_not_zero = λ e. K.one_not_zero (ap (λ (y : Pair A). y.0) e);
    two_not_zero = two_p_not_zero;
  }
