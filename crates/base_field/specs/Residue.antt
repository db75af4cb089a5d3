-- The residue of a sum or difference of numbers below q: one subtraction or addition of q is enough.
use Rattle.std.specs.Prelude.{ℕ, ◌+◌, ◌-◌, ◌%◌, ◌≤◌, ◌<◌, ◌≡◌}
use Rattle.std.proofs.Common.{mod-eq_of_lt, arith, sym, ap, ◌∙◌}
use Rattle.std.proofs.Math.Nat.{add-mod_right}
use Rattle.spec_arithmetic.specs.Field.{modulo}

mod_once : (n q : ℕ) → q ≤ n → n < q + q → n % q ≡ n - q
mod_once n q h l =
    let e : n - q + q ≡ n = omega arith in
    let s : n - q < q = omega arith in
    ap (λ (m : ℕ). m % q) (sym e) ∙ add-mod_right (n - q) q ∙ mod-eq_of_lt s

module _ (q a b : ℕ) where
  pub add_small : a + b < q → a + b ≡ (modulo q).add a b
  add_small h = sym (mod-eq_of_lt h)

  pub add_large : a < q → b < q → q ≤ a + b → a + b - q ≡ (modulo q).add a b
  add_large h k l = sym (mod_once (a + b) q l (omega arith))

  -- the definition's b mod q is b
  reduced : b < q → (a + (q - b)) % q ≡ (modulo q).sub a b
  reduced k = ap (λ (m : ℕ). (a + (q - m)) % q) (sym (mod-eq_of_lt k))

  pub sub_small : a < q → b ≤ a → a - b ≡ (modulo q).sub a b
  sub_small h l =
      let e : a - b ≡ a + (q - b) - q = omega arith in
      e ∙ sym (mod_once (a + (q - b)) q (omega arith) (omega arith)) ∙ reduced (omega arith)

  pub sub_large : b < q → a < b → a + (q - b) ≡ (modulo q).sub a b
  sub_large h l =
      let s : a + (q - b) < q = omega arith in
      sym (mod-eq_of_lt s) ∙ reduced h
