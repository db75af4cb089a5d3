-- The proofs of specs/Laws.
use Rattle.std.specs.Prelude.{◌≡◌, List, [], ◌∷◌}
use Rattle.std.proofs.Common.{sym, ap, ap₂, ◌∙◌}
use Rattle.math_ring.specs.Ring.{CRing}
use Rattle.math_ring.specs.Identity.{ring, quote}
use Rattle.math_ring.specs.Series.{Series}
use Rattle.math_algebra.specs.Field.{Field}
use Rattle.math_algebra.specs.Polynomial.{F, Px}
use Rattle.spec_arithmetic.specs.Field.{Ops}
use Rattle.spec_arithmetic.specs.Polynomials.{quo, rem}
use Rattle.spec_definitions.specs.Walk.{Ideal}
use Rattle.spec_bridge.specs.Model.{Model, Inverts, series}
use Rattle.spec_bridge.specs.Trim.{series_ext}
use Rattle.spec_bridge.specs.Arithmetic.{trim_add, oks_add, trim_sub, oks_sub, series_add, series_sub, series_mul}
use Rattle.spec_laws.specs.Pairs.{IsIdeal, cofactor_at}
use Rattle.spec_laws.specs.Product.{common_of, product_q, unreduced_p, product_p}
use Rattle.ideal_shared.specs.Laws.{turned_p}

module _ {A B : Type 0} {o : Ops A} (K : Field B) (M : Model o (F K)) (I : Inverts M) (D : List A) {x y : Ideal A} (hx : IsIdeal K M D x) (hy : IsIdeal K M D y) where
  open Series (F K) use {add as ◌+◌, mul as ◌*◌, neg as -◌, one as 𝟙}

  infixl 6 ◌+◌ ◌-◌
  infixl 7 ◌*◌
  infix 8 -◌
  abbrev R[x] : CRing (Px K)
  R[x] = Series (F K)

  abbrev ◌-◌ : Px K → Px K → Px K
  a - b = a + (- b)

  abbrev S : List A
  S = common_of o x y

  abbrev first : List A
  first = quo o x.q S

  -- ---- P
  module _ (u w : List A) where
    abbrev P₁ : Px K
    P₁ = series M x.p

    abbrev P₂ : Px K
    P₂ = series M y.p

    abbrev C : Px K
    C = series M (cofactor_at o D x)

    left : series M (turned_p o D x y u w) ≡ P₁ - series M first * (series M u * (P₁ - P₂) - series M w * C)
    left = series_sub M x.p _ ∙ ap (λ f. P₁ - f) (series_mul M first _ ∙ ap (λ f. series M first * f) (series_sub M _ _ ∙ ap₂ ◌-◌ (series_mul M u _ ∙ ap (λ f. series M u * f) (series_sub M x.p y.p)) (series_mul M w _)))

    right : series M (unreduced_p o D x y u w) ≡ P₁ + series M first * (series M u * (P₂ - P₁) + series M w * C)
    right = series_add M x.p _ ∙ ap (λ f. P₁ + f) (series_mul M first _ ∙ ap (λ f. series M first * f) (series_add M _ _ ∙ ap₂ ◌+◌ (series_mul M u _ ∙ ap (λ f. series M u * f) (series_sub M y.p x.p)) (series_mul M w _)))

    signs : P₁ - series M first * (series M u * (P₁ - P₂) - series M w * C) ≡ P₁ + series M first * (series M u * (P₂ - P₁) + series M w * C)
    signs = ring R[x] (P₁ ∷ P₂ ∷ series M first ∷ series M u ∷ series M w ∷ C ∷ []) (search quote depth 40 fits 9999) tt

    pub turned : rem o (turned_p o D x y u w) (product_q o x y) ≡ product_p o D x y u w
    turned = ap (λ (l : List A). rem o l (product_q o x y)) (series_ext M _ _ (trim_sub M _ _) (trim_add M _ _) (oks_sub M _ _) (oks_add M _ _) (left ∙ signs ∙ sym right))
