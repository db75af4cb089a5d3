-- Degrees of series: `Below f n` says that f is 0 from the exponent n on, so f is a polynomial of degree
-- under n. The bound and the leading coefficient of a product, by recursion on the first factor.
use Prim.Native.Nat.{ℕ, zero, suc, ◌+◌ as ◌+ₙ◌, ◌≤◌, zero-le, suc-le-suc}
use Rattle.std.proofs.Common.{suc-add, zero-add, arith, ◌∙◌}
use Rattle.std.specs.Prelude.{◌≡◌}
use Rattle.std.proofs.Math.Path.{refl, ap, ap₂, fun_ext}
use Rattle.math_ring.specs.Ring.{CRing, zer_add, mul_zer}
use Rattle.math_ring.specs.Series.{S, add_s, conv, zer_s, tail, conv_zeroˡ}

module _ {A : Type 0} (F : CRing A) where
  open F use {add as ◌+◌, mul as ◌*◌, zer as 𝟘, add_zer}

  infixl 6 ◌+◌
  infixl 7 ◌*◌
  abbrev pub Below : S F → ℕ → Type 0
  Below f n = (i : ℕ) → n ≤ i → f i ≡ 𝟘

  pub below_tail : (f : S F) (n : ℕ) → Below f (suc n) → Below (tail F f) n
  below_tail f n h i p = h (suc i) (suc-le-suc p)

  pub below_add : (f g : S F) (n : ℕ) → Below f n → Below g n → Below (add_s F f g) n
  unfolding add_s
  below_add f g n h k i p = ap₂ ◌+◌ (h i p) (k i p) ∙ add_zer 𝟘

  pub conv_none : (f g : S F) → Below f 0 → (i : ℕ) → conv F f g i ≡ 𝟘
  unfolding zer_s
  conv_none f g h i = ap (λ u. conv F u g i) (fun_ext (λ k. h k zero-le)) ∙ conv_zeroˡ F g i

  -- degrees under m and n give a degree under m + n - 1
  pub below_conv : (m n : ℕ) (f g : S F) → Below f m → Below g n → (i : ℕ) → m +ₙ n ≤ suc i → conv F f g i ≡ 𝟘
  unfolding conv
  below_conv zero n f g h k i p = conv_none f g h i
  below_conv (suc m) n f g h k zero p = ap (λ u. f 0 * u) (k 0 (omega arith)) ∙ mul_zer F (f 0)
  below_conv (suc m) n f g h k (suc i) p = ap₂ ◌+◌ (ap (λ u. f 0 * u) (k (suc i) (omega arith)) ∙ mul_zer F (f 0)) (below_conv m n (tail F f) g (below_tail f m h) k i (omega arith)) ∙ add_zer 𝟘

  -- the leading coefficient of a product
  pub lead_conv : (m n : ℕ) (f g : S F) → Below f (suc m) → Below g (suc n) → conv F f g (m +ₙ n) ≡ f m * g n
  unfolding conv
  lead_conv zero n f g h k = ap (conv F f g) (zero-add n) ∙ at0 n
    where
      at0 : (n : ℕ) → conv F f g n ≡ f 0 * g n
      at0 zero = refl
      at0 (suc j) = ap (λ u. f 0 * g (suc j) + u) (conv_none (tail F f) g (below_tail f 0 h) j) ∙ add_zer (f 0 * g (suc j))
  lead_conv (suc m) n f g h k = ap (conv F f g) (suc-add m n) ∙ ap₂ ◌+◌ (ap (λ u. f 0 * u) (k (suc (m +ₙ n)) (omega arith)) ∙ mul_zer F (f 0)) (lead_conv m n (tail F f) g (below_tail f (suc m) h) k) ∙ zer_add F (f (suc m) * g n)
