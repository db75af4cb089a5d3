-- The proofs of specs/Roots.
use Prim.Native.Nat.{ℕ, zero, suc, ◌+◌ as ◌+ₙ◌, ◌*◌ as ◌*ₙ◌, ◌/◌, ◌%◌, ◌<◌}
use Rattle.std.proofs.Math.Nat.{div-add-mod}
use Rattle.std.proofs.Common.{eq-zero-or-pos, mod-lt, arith, sym, ap₂, ◌∙◌, subst, ⊎_elim}
use Rattle.std.specs.Prelude.{◌≡◌}
use Rattle.std.proofs.Math.Path.{refl, ap}
use mathlib.Core.List.{[], ◌∷◌}
use Rattle.math_ring.specs.Ring.{CRing, zer_mul}
use Rattle.math_ring.specs.Identity.{ring, ring_from, times, plus, quote}
use Rattle.math_algebra.specs.Field.{Field}
use Rattle.math_algebra.specs.Multiple.{natural, power}
use Rattle.math_algebra.specs.Characteristic.{Characteristic}
use Rattle.math_algebra.specs.Frobenius.{frobenius}
use Rattle.math_algebra.specs.Prime.{Prime, prime_characteristic, perfect_roots}
use Rattle.math_quadratic.specs.Pairs.{Pair, pair_path, add_p, mul_p, embed, w, Pairs}
use Rattle.math_quadratic.specs.Extension.{NonSquare, extension}
use Rattle.math_quadratic.proofs.Powers.{power_mul, power_odd}
use Rattle.math_quadratic.specs.Roots.{Conjugate, PowerTwice, PerfectExtension}

-- ---- the proof
-- a prime above 2 is odd
prime_is_odd : (q : ℕ) → Prime q → 2 < q → (k : ℕ) × (q ≡ suc (k +ₙ k))
prime_is_odd q p more =
    let whole : 2 *ₙ (q / 2) +ₙ q % 2 ≡ q = div-add-mod q 2 in
    let low : q % 2 < 2 = mod-lt q (omega arith) in
    ⊎_elim (λ z. absurd (p.none 2 (omega arith) more z)) (λ h. (q / 2, omega arith)) (eq-zero-or-pos (q % 2))

module _ {A : Type 0} (R : CRing A) (ν : A) where
  open R use {mul as ◌*◌, zer as 𝟘, one as 𝟙}

  infixl 7 ◌*◌
  embed_mul : (a b : A) → mul_p R ν (embed R a) (embed R b) ≡ embed R (a * b)
  unfolding mul_p
  embed_mul a b = pair_path (ring R (ν ∷ a ∷ b ∷ []) (search quote depth 40 fits 9999) tt) (ring R (ν ∷ a ∷ b ∷ []) (search quote depth 40 fits 9999) tt)

  embed_power : (a : A) (n : ℕ) → power (Pairs R ν) (embed R a) n ≡ embed R (power R a n)
  unfolding power
  embed_power a zero = refl
  embed_power a (suc n) = ap (mul_p R ν (embed R a)) (embed_power a n) ∙ embed_mul a (power R a n)

  embed_natural : (n : ℕ) → natural (Pairs R ν) n ≡ embed R (natural R n)
  unfolding natural add_p
  embed_natural zero = refl
  embed_natural (suc n) = ap (λ (x : Pair A). add_p R ν x (embed R 𝟙)) (embed_natural n) ∙ pair_path refl (R.add_zer 𝟘)

  w_square : mul_p R ν (w R) (w R) ≡ embed R ν
  unfolding mul_p
  w_square = pair_path (ring R (ν ∷ []) (search quote depth 40 fits 9999) tt) (ring R [] (search quote depth 40 fits 9999) tt)

  w_mul : (a : A) → mul_p R ν (w R) (embed R a) ≡ (𝟘, a)
  unfolding mul_p
  w_mul a = pair_path (ring R (ν ∷ a ∷ []) (search quote depth 40 fits 9999) tt) (ring R (ν ∷ a ∷ []) (search quote depth 40 fits 9999) tt)

  -- w^(2k+1) = ν^k·w
  w_power : (k : ℕ) → power (Pairs R ν) (w R) (suc (k +ₙ k)) ≡ (𝟘, power R ν k)
  w_power k = power_odd (Pairs R ν) (w R) k ∙ ap (mul_p R ν (w R)) (ap (λ (x : Pair A). power (Pairs R ν) x k) w_square ∙ embed_power ν k) ∙ w_mul (power R ν k)

  -- u + v·w as a sum of products, and u + v·e·w for e·w in the place of w
  parts : (u v : A) → ◌≡◌ {A = Pair A} (u, v) (add_p R ν (embed R u) (mul_p R ν (embed R v) (w R)))
  unfolding add_p mul_p
  parts u v = pair_path (ring R (u ∷ v ∷ ν ∷ []) (search quote depth 40 fits 9999) tt) (ring R (u ∷ v ∷ ν ∷ []) (search quote depth 40 fits 9999) tt)

  parts_times : (u v e : A) → add_p R ν (embed R u) (mul_p R ν (embed R v) (𝟘, e)) ≡ (u, v * e)
  unfolding add_p mul_p
  parts_times u v e = pair_path (ring R (u ∷ v ∷ e ∷ ν ∷ []) (search quote depth 40 fits 9999) tt) (ring R (u ∷ v ∷ e ∷ ν ∷ []) (search quote depth 40 fits 9999) tt)

pub conjugate : {A : Type 0} (R : CRing A) (ν : A) → Conjugate R ν
conjugate {A} R ν k char fix u v =
    ap (λ (x : Pair A). power (Pairs R ν) x (suc (k +ₙ k))) (parts R ν u v)
    ∙ frobenius (Pairs R ν) (suc (k +ₙ k)) char _ _
    ∙ ap₂ (add_p R ν) (fixed u) (power_mul (Pairs R ν) (embed R v) (w R) (suc (k +ₙ k)) ∙ ap₂ (mul_p R ν) (fixed v) (w_power R ν k))
    ∙ parts_times R ν u v (power R ν k)
  where
    fixed : (c : A) → power (Pairs R ν) (embed R c) (suc (k +ₙ k)) ≡ embed R c
    fixed c = embed_power R ν c (suc (k +ₙ k)) ∙ ap (embed R) (fix c)

module _ {A : Type 0} (K : Field A) (ν : A) where
  open K.scalars use {add as ◌+◌, mul as ◌*◌, neg as -◌, zer as 𝟘, one as 𝟙}

  infixl 6 ◌+◌
  infixl 7 ◌*◌
  infix 8 -◌
  -- a non-square is not 0
  non_square_zero : NonSquare K ν → ν ≡ 𝟘 → ⊥
  non_square_zero n e = n 𝟘 (zer_mul K.scalars 𝟘 ∙ sym e)

  -- ε² = 1
  ε_square : NonSquare K ν → (k : ℕ) → power K.scalars ν (suc (k +ₙ k)) ≡ ν → power K.scalars ν k * power K.scalars ν k ≡ 𝟙
  ε_square n k fix = cancel (power K.scalars ν k) (ap (λ t. ν * t) (sym (power_mul K.scalars ν ν k)) ∙ sym (power_odd K.scalars ν k) ∙ fix)
    where
      cancel : (e : A) → ν * (e * e) ≡ ν → e * e ≡ 𝟙
      cancel e h = ring_from K.scalars (ν ∷ e ∷ K.inv ν ∷ []) (plus K.scalars (times K.scalars (K.inv ν) h) (times K.scalars (𝟙 + - (e * e)) (K.inv_mul ν (non_square_zero n)))) (search quote depth 40 fits 9999) tt

  -- q is 0 in the extension too
  extension_zero : (q : ℕ) → natural K.scalars q ≡ 𝟘 → natural (Pairs K.scalars ν) q ≡ embed K.scalars 𝟘
  extension_zero q e = embed_natural K.scalars ν q ∙ ap (embed K.scalars) e

  pub power_twice : PowerTwice K ν
  power_twice n q prime more zero_q fix = go (prime_is_odd q prime more)
    where
      again : (v e : A) → e * e ≡ 𝟙 → (v * e) * e ≡ v
      again v e h = ring_from K.scalars (v ∷ e ∷ []) (times K.scalars v h) (search quote depth 40 fits 9999) tt

      char : Characteristic (Pairs K.scalars ν) q
      char = prime_characteristic (Pairs K.scalars ν) q prime (extension_zero q zero_q)

      twice : (k : ℕ) → Characteristic (Pairs K.scalars ν) (suc (k +ₙ k)) → ((c : A) → power K.scalars c (suc (k +ₙ k)) ≡ c)
          → (c : Pair A) → power (Pairs K.scalars ν) (power (Pairs K.scalars ν) c (suc (k +ₙ k))) (suc (k +ₙ k)) ≡ c
      twice k char fix c =
          ap (λ (x : Pair A). power (Pairs K.scalars ν) x (suc (k +ₙ k))) (conjugate K.scalars ν k char fix c.0 c.1)
          ∙ conjugate K.scalars ν k char fix c.0 (c.1 * power K.scalars ν k)
          ∙ pair_path refl (again c.1 (power K.scalars ν k) (ε_square n k (fix ν)))

      go : (k : ℕ) × (q ≡ suc (k +ₙ k)) → (c : Pair A) → power (Pairs K.scalars ν) (power (Pairs K.scalars ν) c q) q ≡ c
      go (k, e) = subst (λ (m : ℕ). (c : Pair A) → power (Pairs K.scalars ν) (power (Pairs K.scalars ν) c m) m ≡ c) (sym e) (twice k (subst (Characteristic (Pairs K.scalars ν)) e char) (subst (λ (m : ℕ). (c : A) → power K.scalars c m ≡ c) e fix))

  pub perfect_extension : PerfectExtension K ν
  perfect_extension n q prime more zero_q fix = perfect_roots (extension K ν n) q prime (extension_zero q zero_q) (λ c. power (Pairs K.scalars ν) c q) (power_twice n q prime more zero_q fix)
