-- Operations on coefficients that are those of a ring: a map φ into the ring that respects them, and `Ok`
-- coefficients, on which φ is one to one. The series of a list of coefficients; what adding, subtracting and
-- multiplying by 0 is.
use Rattle.std.specs.Prelude.{ℕ, ◌≡◌, refl, Bool, true, false, List, []}
use Rattle.std.proofs.Common.{sym, ap, ◌∙◌}
use Rattle.std.proofs.Math.Path.{fun_ext}
use Rattle.math_ring.specs.Ring.{CRing, mul_zer}
use Rattle.math_ring.specs.Series.{S, zer_s}
use Rattle.spec_arithmetic.specs.Field.{Ops}
use Rattle.spec_arithmetic.specs.Polynomials.{at}

pub record Model {A B : Type 0} (o : Ops A) (R : CRing B) : Type 1 where
  pub φ : A → B
  pub φ_zer : φ o.zer ≡ R.zer
  pub φ_one : φ o.one ≡ R.one
  pub φ_add : (a b : A) → φ (o.add a b) ≡ R.add (φ a) (φ b)
  pub φ_sub : (a b : A) → φ (o.sub a b) ≡ R.add (φ a) (R.neg (φ b))
  pub φ_mul : (a b : A) → φ (o.mul a b) ≡ R.mul (φ a) (φ b)
  pub zer?-true : (a : A) → o.zer? a ≡ true → φ a ≡ R.zer
  pub zer?-false : (a : A) → o.zer? a ≡ false → φ a ≡ R.zer → ⊥
  -- the coefficients that stand for themselves: every operation gives one
  pub Ok : A → Type 0
  pub inj : (a b : A) → Ok a → Ok b → φ a ≡ φ b → a ≡ b
  pub ok_zer : Ok o.zer
  pub ok_one : Ok o.one
  pub ok_add : (a b : A) → Ok (o.add a b)
  pub ok_sub : (a b : A) → Ok (o.sub a b)
  pub ok_mul : (a b : A) → Ok (o.mul a b)

-- every coefficient that is not 0 has its inverse; that of 0 is 0
pub record Inverts {A B : Type 0} {o : Ops A} {R : CRing B} (M : Model o R) : Type 0 where
  pub inv_mul : (a : A) → (M.φ a ≡ R.zer → ⊥) → R.mul (M.φ (o.inv a)) (M.φ a) ≡ R.one
  pub inv_zer : (a : A) → M.φ a ≡ R.zer → M.φ (o.inv a) ≡ R.zer
  pub ok_inv : (a : A) → M.Ok (o.inv a)

module _ {A B : Type 0} {o : Ops A} {R : CRing B} (M : Model o R) where
  open M use {φ, φ_zer, φ_add, φ_sub, φ_mul, zer?-false, Ok, inj, ok_zer, ok_add, ok_sub, ok_mul}

  -- each coefficient stands for itself
  abbrev pub Oks : List A → Type 0
  Oks l = (i : ℕ) → Ok (at o l i)

  -- the polynomial of a list
  abbrev pub series : List A → S R
  series l = λ n. φ (at o l n)

  pub series_nil : series [] ≡ zer_s R
  unfolding zer_s
  series_nil = fun_ext (λ n. φ_zer)

  pub zer?-zer : (a : A) → φ a ≡ R.zer → o.zer? a ≡ true
  zer?-zer a e = go (o.zer? a) refl
    where
      go : (b : Bool) → o.zer? a ≡ b → o.zer? a ≡ true
      go true h = h
      go false h = absurd (zer?-false a h e)

  pub add_zer_zer : o.add o.zer o.zer ≡ o.zer
  add_zer_zer = inj _ _ (ok_add _ _) ok_zer (φ_add _ _ ∙ ap (λ u. R.add u u) φ_zer ∙ R.add_zer R.zer ∙ sym φ_zer)

  pub sub_zer_zer : o.sub o.zer o.zer ≡ o.zer
  sub_zer_zer = inj _ _ (ok_sub _ _) ok_zer (φ_sub _ _ ∙ ap (λ u. R.add u (R.neg u)) φ_zer ∙ R.add_neg R.zer ∙ sym φ_zer)

  pub mul_by_zer : (c : A) → o.mul c o.zer ≡ o.zer
  mul_by_zer c = inj _ _ (ok_mul _ _) ok_zer (φ_mul _ _ ∙ ap (R.mul (φ c)) φ_zer ∙ mul_zer R (φ c) ∙ sym φ_zer)

  pub add_zer_right : (a : A) → Ok a → o.add a o.zer ≡ a
  add_zer_right a k = inj _ _ (ok_add _ _) k (φ_add _ _ ∙ ap (R.add (φ a)) φ_zer ∙ R.add_zer (φ a))
