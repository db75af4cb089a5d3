-- The product of series as a sum over i ≤ n of f i g (n - i), and sums from either end: what a loop computes.
use Prim.Native.Nat.{ℕ, zero, suc, ◌-◌ as ◌-ₙ◌}
use Rattle.std.proofs.Math.Nat.{sub-zero, suc-sub-suc}
use Rattle.std.specs.Prelude.{◌≡◌, refl}
use Rattle.std.proofs.Common.{sym, ◌∙◌}
use Rattle.std.proofs.Math.Path.{ap, ap₂, fun_ext}
use Rattle.math_ring.specs.Ring.{CRing}
use Rattle.math_ring.specs.Series.{S, conv, tail}

module _ {A : Type 0} (F : CRing A) where
  open F use {add as ◌+◌, mul as ◌*◌, add_assoc}

  infixl 6 ◌+◌
  infixl 7 ◌*◌
  -- h 0 + .. + h n, bracketed to the right
  abbrev pub sum : ℕ → (ℕ → A) → A
  sum zero h = h 0
  sum (suc n) h = h 0 + sum n (λ i. h (suc i))

  pub sum_last : (n : ℕ) (h : ℕ → A) → sum (suc n) h ≡ sum n h + h (suc n)
  sum_last zero h = refl
  sum_last (suc n) h = ap (λ u. h 0 + u) (sum_last n (λ i. h (suc i))) ∙ sym (add_assoc (h 0) (sum n (λ i. h (suc i))) (h (suc (suc n))))

  pub conv_sum : (f g : S F) (n : ℕ) → conv F f g n ≡ sum n (λ i. f i * g (n -ₙ i))
  unfolding conv
  conv_sum f g zero = ap (λ k. f 0 * g k) (sym (sub-zero 0))
  conv_sum f g (suc n) = ap₂ ◌+◌ (ap (λ k. f 0 * g k) (sym (sub-zero (suc n)))) (conv_sum (tail F f) g n ∙ ap (sum n) (fun_ext (λ i. ap (λ k. f (suc i) * g k) (sym (suc-sub-suc n i)))))
