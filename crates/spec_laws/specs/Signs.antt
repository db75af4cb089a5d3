-- The sign (−1)^i and the norm p² − D·s² of lists, and the polynomials that they stand for.
use Rattle.std.specs.Prelude.{ℕ, zero, suc, ◌+◌ as ◌+ₙ◌, ◌*◌ as ◌*ₙ◌, ◌/◌, ◌%◌, ◌<◌, ◌≡◌, refl, Bool, not, eqb}
use Rattle.std.proofs.Common.{mod-lt, arith, sym, ◌∙◌, eqb-true, eq-eqb, ne_eqb}
use Rattle.std.proofs.Math.Nat.{div-add-mod}
use Rattle.std.proofs.Math.Path.{ap, ap₂}
use Rattle.std.proofs.Math.Bool.{true, false}
use mathlib.Core.List.{List, [], ◌∷◌}
use Rattle.std.proofs.lemmas.Bool.{eqb-false}
use Rattle.math_ring.specs.Identity.{ring, quote}
use Rattle.math_ring.specs.Series.{Series}
use Rattle.math_algebra.specs.Field.{Field}
use Rattle.math_algebra.specs.Polynomial.{F, Px}
use Rattle.math_surd.specs.Convergents.{sign}
use Rattle.spec_arithmetic.specs.Field.{Ops}
use Rattle.spec_arithmetic.specs.Polynomials.{add, sub, mul}
use Rattle.spec_bridge.specs.Model.{Model, Oks, series, series_nil}
use Rattle.spec_bridge.specs.Trim.{Trim}
use Rattle.spec_bridge.specs.Arithmetic.{oks_sub, trim_sub, series_sub, series_mul}

-- (−1)^i times a polynomial with no zero at its end
unfoldable pub signed : {A : Type 0} → Ops A → ℕ → List A → List A
signed o i l = elim (eqb (i % 2) 0) [ true ↦ l | false ↦ sub o [] l ]

-- the norm of p + s√D
unfoldable pub norm_of : {A : Type 0} → Ops A → List A → List A → List A → List A
norm_of o D p s = sub o (mul o p p) (mul o D (mul o s s))

-- ---- even and odd numbers take turns
parity_suc : (i : ℕ) → eqb (suc i % 2) 0 ≡ not (eqb (i % 2) 0)
parity_suc i = go (eqb (i % 2) 0) refl
  where
    whole : 2 *ₙ (i / 2) +ₙ i % 2 ≡ i
    whole = div-add-mod i 2

    whole_suc : 2 *ₙ (suc i / 2) +ₙ suc i % 2 ≡ suc i
    whole_suc = div-add-mod (suc i) 2

    less : suc i % 2 < 2
    less = mod-lt (suc i) (omega arith)

    less_one : i % 2 < 2
    less_one = mod-lt i (omega arith)

    go : (t : Bool) → eqb (i % 2) 0 ≡ t → eqb (suc i % 2) 0 ≡ not t
    go true e = ne_eqb (suc i % 2) 0 (λ z. let even : i % 2 ≡ 0 = eqb-true (i % 2) 0 e in omega (arith, whole, whole_suc))
    go false e = eq-eqb (suc i % 2) 0 (let odd = eqb-false (i % 2) 0 e in omega (arith, whole, whole_suc, less, less_one))

module _ {A B : Type 0} {o : Ops A} (K : Field B) (M : Model o (F K)) where
  open Series (F K) use {add as ◌+◌, mul as ◌*◌, neg as -◌, one as 𝟙}

  infixl 6 ◌+◌ ◌-◌
  infixl 7 ◌*◌
  infix 8 -◌
  abbrev ◌-◌ : Px K → Px K → Px K
  a - b = a + (- b)

  abbrev sign_of : Bool → Px K
  sign_of true = 𝟙
  sign_of false = - 𝟙

  sign_parity : (i : ℕ) → sign K i ≡ sign_of (eqb (i % 2) 0)
  sign_parity zero = refl
  sign_parity (suc i) = ap -◌ (sign_parity i) ∙ turn (eqb (i % 2) 0) ∙ ap sign_of (sym (parity_suc i))
    where
      turn : (t : Bool) → - sign_of t ≡ sign_of (not t)
      turn true = refl
      turn false = ring (Series (F K)) [] (search quote depth 40 fits 9999) tt

  pub series_signed : (i : ℕ) (l : List A) → series M (signed o i l) ≡ sign K i * series M l
  unfolding signed
  series_signed i l = go (eqb (i % 2) 0) ∙ ap (λ (f : Px K). f * series M l) (sym (sign_parity i))
    where
      go : (t : Bool) → series M (elim t [ true ↦ l | false ↦ sub o [] l ]) ≡ sign_of t * series M l
      go true = ring (Series (F K)) (series M l ∷ []) (search quote depth 40 fits 9999) tt
      go false = series_sub M [] l ∙ ap (λ (f : Px K). f - series M l) (series_nil M) ∙ ring (Series (F K)) (series M l ∷ []) (search quote depth 40 fits 9999) tt

  pub trim_signed : (i : ℕ) (l : List A) → Trim M l → Trim M (signed o i l)
  unfolding signed
  trim_signed i l t = go (eqb (i % 2) 0)
    where
      go : (b : Bool) → Trim M (elim b [ true ↦ l | false ↦ sub o [] l ])
      go true = t
      go false = trim_sub M [] l

  pub oks_signed : (i : ℕ) (l : List A) → Oks M l → Oks M (signed o i l)
  unfolding signed
  oks_signed i l t = go (eqb (i % 2) 0)
    where
      go : (b : Bool) → Oks M (elim b [ true ↦ l | false ↦ sub o [] l ])
      go true = t
      go false = oks_sub M [] l

  pub series_norm : (D p s : List A) → series M (norm_of o D p s) ≡ series M p * series M p - series M D * (series M s * series M s)
  unfolding norm_of
  series_norm D p s = series_sub M (mul o p p) _ ∙ ap₂ ◌-◌ (series_mul M p p) (series_mul M D (mul o s s) ∙ ap (λ (f : Px K). series M D * f) (series_mul M s s))
