-- The definition's Q is (Q_1/S)·(Q_2/S), and its P is that with both signs turned.
use Rattle.std.specs.Prelude.{◌+◌ as ◌+ₙ◌, ◌≡◌, List, [], ◌∷◌, length}
use Rattle.std.proofs.Common.{arith, sym, ap, ◌∙◌}
use Rattle.math_ring.specs.Ring.{CRing}
use Rattle.math_ring.specs.Identity.{ring_from, times, plus, quote}
use Rattle.math_ring.specs.Series.{Series}
use Rattle.math_algebra.specs.Field.{Field}
use Rattle.math_algebra.specs.Polynomial.{F, Px, Deg, deg_mul, deg_path, monic_deg}
use Rattle.math_algebra.specs.Finite.{Finite, finite_mul}
use Rattle.spec_arithmetic.specs.Field.{Ops}
use Rattle.spec_arithmetic.specs.Polynomials.{sub, mul, quo, rem}
use Rattle.spec_definitions.specs.Walk.{Ideal}
use Rattle.spec_bridge.specs.Model.{Model, Inverts, series, series_nil}
use Rattle.spec_bridge.specs.Trim.{below_length, series_ext}
use Rattle.spec_bridge.specs.Arithmetic.{trim_mul, oks_mul, series_mul}
use Rattle.spec_bridge.specs.Division.{series_quo_rem, trim_quo, oks_quo}
use Rattle.spec_bridge.specs.Quotient.{quo_exact}
use Rattle.spec_bridge.specs.Degree.{deg_size}
use Rattle.spec_laws.specs.Pairs.{IsIdeal, cofactor_at}
use Rattle.spec_laws.specs.Product.{common_of, product_q, common, S_divides}

module _ {A : Type 0} (o : Ops A) (D : List A) where
  -- U·(P_1 − P_2) − W·(D − P_1²)/Q_1
  abbrev pub turned_bracket : Ideal A → Ideal A → List A → List A → List A
  turned_bracket x y u w = sub o (mul o u (sub o x.p y.p)) (mul o w (cofactor_at o D x))

  abbrev pub turned_p : Ideal A → Ideal A → List A → List A → List A
  turned_p x y u w = sub o x.p (mul o (quo o x.q (common_of o x y)) (turned_bracket x y u w))

module _ {A B : Type 0} {o : Ops A} (K : Field B) (M : Model o (F K)) (I : Inverts M) (D : List A) {x y : Ideal A} (hx : IsIdeal K M D x) (hy : IsIdeal K M D y) where
  open Series (F K) use {add as ◌+◌, mul as ◌*◌, neg as -◌, one as 𝟙}

  infixl 6 ◌+◌ ◌-◌
  infixl 7 ◌*◌
  infix 8 -◌
  abbrev R[x] : CRing (Px K)
  R[x] = Series (F K)

  abbrev ◌-◌ : Px K → Px K → Px K
  a - b = a + (- b)

  abbrev S : List A
  S = common_of o x y

  abbrev first : List A
  first = quo o x.q S

  abbrev second : List A
  second = quo o y.q S

  -- ---- Q
  -- what S divides is its quotient times S
  exact : (l : List A) → rem o l S ≡ [] → series M l ≡ series M (quo o l S) * series M S
  exact l e = ring_from R[x] (series M l ∷ series M (quo o l S) ∷ series M S ∷ series M (rem o l S) ∷ []) (plus R[x] (times R[x] 𝟙 (series_quo_rem M l S)) (times R[x] 𝟙 (ap (series M) e ∙ series_nil M))) (search quote depth 40 fits 9999) tt

  finite : Finite K (series M first * series M second)
  finite = finite_mul K (record { size = length first; low = below_length M first }) (record { size = length second; low = below_length M second })

  square_deg : Deg K (series M (mul o S S)) ((common K M I D hx hy).σ +ₙ (common K M I D hx hy).σ)
  square_deg = deg_path K _ (sym (series_mul M S S)) (deg_mul K (series M S) (series M S) _ _ (monic_deg K (common K M I D hx hy).monic) (monic_deg K (common K M I D hx hy).monic))

  both : series M (mul o x.q y.q) ≡ (series M first * series M second) * series M (mul o S S)
  both =
      ring_from R[x] (series M (mul o x.q y.q) ∷ series M (mul o S S) ∷ series M x.q ∷ series M y.q ∷ series M first ∷ series M second ∷ series M S ∷ [])
      (plus R[x] (times R[x] 𝟙 (series_mul M x.q y.q)) (plus R[x] (times R[x] (series M y.q) (exact x.q (S_divides K M I D hx hy).0)) (plus R[x] (times R[x] (series M first * series M S) (exact y.q (S_divides K M I D hx hy).1)) (times R[x] (- (series M first * series M second)) (series_mul M S S)))))
      (search quote depth 40 fits 9999) tt

  pub product_of_quotients : mul o first second ≡ product_q o x y
  product_of_quotients =
      series_ext M _ _ (trim_mul M _ _) (trim_quo M _ _) (oks_mul M _ _) (oks_quo M _ _)
      (series_mul M first second ∙ sym (quo_exact M I (mul o x.q y.q) (mul o S S) (series M first * series M second) finite.size (let e = deg_size K M (mul o S S) square_deg in omega arith) finite.low both).0)
