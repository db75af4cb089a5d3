-- Pairs (Q, P) of lists that are ideals: Q monic, P below its degree, Q dividing D − P². What the refusal 9
-- asks of a pair, and the state that it is over the field.
use Rattle.std.specs.Prelude.{ℕ, ◌+◌ as ◌+ₙ◌, ◌≡◌, List, [], ◌∷◌, length}
use Rattle.std.proofs.Common.{arith, ap, ◌∙◌}
use Rattle.math_ring.specs.Ring.{CRing}
use Rattle.math_ring.specs.Identity.{ring_from, times, plus, quote}
use Rattle.math_ring.specs.Series.{Series}
use Rattle.math_algebra.specs.Field.{Field}
use Rattle.math_algebra.specs.Polynomial.{F, Px, ◌≺◌ as Low, Monic, low_up, monic_deg}
use Rattle.math_surd.specs.Step.{State}
use Rattle.spec_arithmetic.specs.Field.{Ops}
use Rattle.spec_arithmetic.specs.Polynomials.{sub, mul, quo, rem}
use Rattle.spec_definitions.specs.Walk.{Ideal}
use Rattle.spec_bridge.specs.Model.{Model, series, series_nil}
use Rattle.spec_bridge.specs.Trim.{below_length}
use Rattle.spec_bridge.specs.Arithmetic.{series_sub, series_mul}
use Rattle.spec_bridge.specs.Division.{series_quo_rem}

module _ {A : Type 0} (o : Ops A) (D : List A) where
  -- D − P²
  abbrev pub norm_at : Ideal A → List A
  norm_at x = sub o D (mul o x.p x.p)

  -- (D − P²) / Q
  abbrev pub cofactor_at : Ideal A → List A
  cofactor_at x = quo o (norm_at x) x.q

module _ {A B : Type 0} {o : Ops A} (K : Field B) (M : Model o (F K)) (D : List A) where
  open Series (F K) use {add as ◌+◌, mul as ◌*◌, neg as -◌, one as 𝟙}

  infixl 6 ◌+◌ ◌-◌
  infixl 7 ◌*◌
  infix 8 -◌
  abbrev R[x] : CRing (Px K)
  R[x] = Series (F K)

  abbrev ◌-◌ : Px K → Px K → Px K
  a - b = a + (- b)

  -- κ is the degree of Q
  pub record IsIdeal (x : Ideal A) : Type 0 where
    pub κ : ℕ
    pub monic : Monic K (series M x.q) κ
    pub low : Low K (series M x.p) κ
    pub divides : rem o (norm_at o D x) x.q ≡ []

  pub series_norm : (x : Ideal A) → series M (norm_at o D x) ≡ series M D - series M x.p * series M x.p
  series_norm x = series_sub M D (mul o x.p x.p) ∙ ap (λ (f : Px K). series M D - f) (series_mul M x.p x.p)

  pub ideal_state : {x : Ideal A} → IsIdeal x → State K (series M D) (series M x.q) (series M (cofactor_at o D x)) (series M x.p)
  ideal_state {x} h = record {
    κ = h.κ;
    deg = monic_deg K h.monic;
    norm = ring_from R[x] (series M D ∷ series M (norm_at o D x) ∷ series M x.q ∷ series M x.p ∷ series M (cofactor_at o D x) ∷ series M (rem o (norm_at o D x) x.q) ∷ []) (plus R[x] (times R[x] (- 𝟙) (series_norm x)) (plus R[x] (times R[x] 𝟙 (series_quo_rem M (norm_at o D x) x.q)) (times R[x] 𝟙 (ap (series M) h.divides ∙ series_nil M)))) (search quote depth 40 fits 9999) tt;
    size = length (cofactor_at o D x) +ₙ h.κ;
    C_low = low_up K _ (omega arith) (below_length M (cofactor_at o D x));
    P_low = low_up K _ (omega arith) h.low;
  }
