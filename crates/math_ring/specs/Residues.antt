-- The integers mod q as a ring: a number below q, with sums and products reduced. Each law is that of the
-- numbers, with the inner `%` taken off.
use Rattle.std.specs.Prelude.{ℕ, ◌+◌, ◌*◌, ◌-◌, ◌%◌, ◌/◌, ◌<◌, ◌≡◌}
use Rattle.std.proofs.Common.{mod-lt, add_assoc, add_comm, add-zero, mul_assoc, mul_comm, mul-one, mul-add, ◌∙◌}
use Rattle.std.proofs.Math.Nat.{mod-eq_of_lt, mod_self, mod-add-mod, add-mod-mod}
use Rattle.std.proofs.lemmas.Nat.{mul-mod_first, mul-mod_second}
use Rattle.std.proofs.Math.Bridge.{le_prop}
use native.Mathlib.Omega.{arith}
use Rattle.std.proofs.Math.Path.{sym, ap}
use mathlib.Core.HLevel.{Σ_prop_path}
use Rattle.math_ring.specs.Ring.{CRing}

abbrev pub Fq : ℕ → Type 0
Fq q = (n : ℕ) × (n < q)

pub val_path : (q : ℕ) (a b : Fq q) → a.0 ≡ b.0 → a ≡ b
val_path q a b p = Σ_prop_path (λ n. le_prop) p

module _ (q : ℕ) (pos : 0 < q) where
  unfoldable pub to : ℕ → Fq q
  to n = (n % q, mod-lt n pos)

  unfoldable pub add_f : Fq q → Fq q → Fq q
  add_f a b = to (a.0 + b.0)

  unfoldable pub mul_f : Fq q → Fq q → Fq q
  mul_f a b = to (a.0 * b.0)

  unfoldable pub neg_f : Fq q → Fq q
  neg_f a = to (q - a.0)

  pub add_f_assoc : (a b c : Fq q) → add_f (add_f a b) c ≡ add_f a (add_f b c)
  unfolding add_f to
  add_f_assoc a b c = val_path q _ _ (mod-add-mod (a.0 + b.0) q c.0 ∙ ap (λ t. t % q) (add_assoc a.0 b.0 c.0) ∙ sym (add-mod-mod a.0 (b.0 + c.0) q))

  pub add_f_comm : (a b : Fq q) → add_f a b ≡ add_f b a
  unfolding add_f
  add_f_comm a b = ap to (add_comm a.0 b.0)

  pub add_f_zer : (a : Fq q) → add_f a (to 0) ≡ a
  unfolding add_f to
  add_f_zer a = val_path q _ _ (add-mod-mod a.0 0 q ∙ ap (λ t. t % q) (add-zero a.0) ∙ mod-eq_of_lt a.1)

  pub add_f_neg : (a : Fq q) → add_f a (neg_f a) ≡ to 0
  unfolding add_f neg_f to
  add_f_neg a = val_path q _ _ (add-mod-mod a.0 (q - a.0) q ∙ ap (λ t. t % q) (full a.0 a.1) ∙ mod_self q ∙ sym (mod-eq_of_lt pos))
    where
      full : (n : ℕ) → n < q → n + (q - n) ≡ q
      full n h = omega arith

  pub mul_f_assoc : (a b c : Fq q) → mul_f (mul_f a b) c ≡ mul_f a (mul_f b c)
  unfolding mul_f to
  mul_f_assoc a b c = val_path q _ _ (mul-mod_first (a.0 * b.0) c.0 q ∙ ap (λ t. t % q) (mul_assoc a.0 b.0 c.0) ∙ sym (mul-mod_second a.0 (b.0 * c.0) q))

  pub mul_f_comm : (a b : Fq q) → mul_f a b ≡ mul_f b a
  unfolding mul_f
  mul_f_comm a b = ap to (mul_comm a.0 b.0)

  pub mul_f_one : (a : Fq q) → mul_f a (to 1) ≡ a
  unfolding mul_f to
  mul_f_one a = val_path q _ _ (mul-mod_second a.0 1 q ∙ ap (λ t. t % q) (mul-one a.0) ∙ mod-eq_of_lt a.1)

  pub mul_f_add : (a b c : Fq q) → mul_f a (add_f b c) ≡ add_f (mul_f a b) (mul_f a c)
  unfolding mul_f add_f to
  mul_f_add a b c = val_path q _ _ (mul-mod_second a.0 (b.0 + c.0) q ∙ ap (λ t. t % q) (mul-add a.0 b.0 c.0) ∙ sym (mod-add-mod (a.0 * b.0) q (a.0 * c.0 % q) ∙ add-mod-mod (a.0 * b.0) (a.0 * c.0) q))

  abbrev pub FqRing : CRing (Fq q)
  FqRing = record {
    add = add_f;
    mul = mul_f;
    neg = neg_f;
    zer = to 0;
    one = to 1;
    add_assoc = add_f_assoc;
    add_comm = add_f_comm;
    add_zer = add_f_zer;
    add_neg = add_f_neg;
    mul_assoc = mul_f_assoc;
    mul_comm = mul_f_comm;
    mul_one = mul_f_one;
    mul_add = mul_f_add;
  }
