-- The product of two ideals where Q_1 and Q_2 have no common factor: S is 1, Q is Q_1-as-Q_2, and P is
-- P_1 − Q_1·(U·(P_1 − P_2) mod Q_2), with Bezout's U of Q_1 and Q_2.
use Rattle.std.specs.Prelude.{ℕ, suc, ◌+◌ as ◌+ₙ◌, ◌≤◌, ◌≡◌, List, [], ◌∷◌, length}
use Rattle.std.proofs.Common.{arith, sym, ap, ap₂, ◌∙◌, subst}
use Rattle.math_ring.specs.Ring.{CRing}
use Rattle.math_ring.specs.Identity.{ring_from, times, plus, quote}
use Rattle.math_ring.specs.Series.{Series}
use Rattle.math_algebra.specs.Field.{Field}
use Rattle.math_algebra.specs.Polynomial.{F, Px, ◌≺◌ as Low, Monic, low_neg, monic_deg, monic_constant_one}
use Rattle.math_algebra.specs.Divides.{divides_le}
use Rattle.math_algebra.specs.Gcd.{gcd_monic}
use Rattle.spec_arithmetic.specs.Field.{Ops}
use Rattle.spec_arithmetic.specs.Polynomials.{trim, add, sub, mul, quo, rem, gcd, bezout}
use Rattle.spec_definitions.specs.Walk.{Ideal}
use Rattle.spec_bridge.specs.Model.{Model, Inverts, series, series_nil}
use Rattle.spec_bridge.specs.Trim.{below_length, length_trim, size_le, series_ext}
use Rattle.spec_bridge.specs.Arithmetic.{trim_mul, oks_mul, trim_sub, oks_sub, series_add, series_sub, series_mul}
use Rattle.spec_bridge.specs.Lengths.{length_sub, length_mul}
use Rattle.spec_bridge.specs.Division.{series_quo_rem, rem_less, trim_quo, oks_quo, trim_rem, oks_rem}
use Rattle.spec_bridge.specs.Quotient.{quo_exact, quo_rem_unique}
use Rattle.spec_bridge.specs.Degree.{deg_size, monic_size, zero_size}
use Rattle.spec_bridge.specs.Bezout.{bezout_identity, trim_gcd, oks_gcd}
use Rattle.spec_bridge.specs.Euclid.{gcd_is}
use Rattle.spec_laws.specs.Pairs.{IsIdeal, cofactor_at}
use Rattle.spec_laws.specs.Product.{common_of, product_q, unreduced_p, product_p, bezout_u, bezout_w, Gives, bezout_gives, product_same, common, S_size, Q_product, Q_size}

module _ {A : Type 0} (o : Ops A) where
  -- U·(P_1 − P_2) modulo Q_2
  abbrev pub coprime_factor : Ideal A → Ideal A → List A
  coprime_factor x y = rem o (mul o (bezout o x.q y.q).u (sub o x.p y.p)) y.q

  abbrev pub coprime_p : Ideal A → Ideal A → List A
  coprime_p x y = sub o x.p (mul o x.q (coprime_factor x y))

module _ {A B : Type 0} {o : Ops A} (K : Field B) (M : Model o (F K)) (I : Inverts M) (D : List A) {x y : Ideal A} (hx : IsIdeal K M D x) (hy : IsIdeal K M D y) (one : length (gcd o x.q y.q) ≡ 1) where
  open Series (F K) use {add as ◌+◌, mul as ◌*◌, neg as -◌, zer as 𝟘, one as 𝟙}

  infixl 6 ◌+◌ ◌-◌
  infixl 7 ◌*◌
  infix 8 -◌
  abbrev R[x] : CRing (Px K)
  R[x] = Series (F K)

  abbrev ◌-◌ : Px K → Px K → Px K
  a - b = a + (- b)

  abbrev G : List A
  G = gcd o x.q y.q

  abbrev S : List A
  S = common_of o x y

  abbrev u : List A
  u = (bezout o x.q y.q).u

  abbrev v : List A
  v = (bezout o x.q y.q).v

  -- ---- S
  G_size : length (trim o G) ≡ 1
  G_size = ap length (trim_gcd M I x.q y.q) ∙ one

  G_monic : Monic K (series M G) 0
  G_monic = subst (λ n. Monic K (series M G) n) (let e = monic_size K M G top.1 in let z = G_size in omega arith) top.1
    where
      top : (n : ℕ) × Monic K (series M G) n
      top = gcd_monic K (gcd_is K M I x.q y.q) (λ z. let e = ap length (zero_size K M G z) in let s = G_size in omega arith)

  G_one : series M G ≡ 𝟙
  G_one = monic_constant_one K (series M G) G_monic

  -- it divides the greatest common divisor of Q_1 and Q_2
  σ_none : (common K M I D hx hy).σ ≡ 0
  σ_none = let w = divides_le K (gcd_is K M I G (add o x.p y.p)).left (monic_deg K (common K M I D hx hy).monic) (monic_deg K G_monic) in omega arith

  S_one : series M S ≡ 𝟙
  S_one = monic_constant_one K (series M S) (subst (λ n. Monic K (series M S) n) σ_none (common K M I D hx hy).monic)

  pub coprime_S : S ≡ G
  coprime_S = series_ext M _ _ (trim_gcd M I _ _) (trim_gcd M I _ _) (oks_gcd M I _ _) (oks_gcd M I _ _) (S_one ∙ sym G_one)

  -- ---- Q
  pub coprime_Q : product_q o x y ≡ mul o x.q y.q
  coprime_Q =
      series_ext M _ _ (trim_quo M _ _) (trim_mul M _ _) (oks_quo M _ _) (oks_mul M _ _)
      (sym (series_mul M (product_q o x y) (mul o S S) ∙ ap (λ f. series M (product_q o x y) * f) (series_mul M S S ∙ ap₂ ◌*◌ S_one S_one ∙ R[x].mul_one 𝟙) ∙ R[x].mul_one (series M (product_q o x y)))
      ∙ ap (series M) (Q_product K M I D hx hy))

  -- ---- P
  gives : Gives K M I D x y u v []
  gives = record {
    is =
        S_one ∙ sym G_one ∙ bezout_identity M I x.q y.q
        ∙ ring_from R[x] (series M u ∷ series M x.q ∷ series M v ∷ series M y.q ∷ series M [] ∷ series M x.p ∷ series M y.p ∷ [])
        (times R[x] (- (series M x.p + series M y.p)) (series_nil M)) (search quote depth 40 fits 9999) tt;
  }

  -- Q_1/S is Q_1
  first_series : series M (quo o x.q S) ≡ series M x.q
  first_series =
      (quo_exact M I x.q S (series M x.q) (length x.q) (let e = S_size K M I D hx hy in omega arith) (below_length M x.q)
      (sym (ap (λ f. series M x.q * f) S_one ∙ R[x].mul_one (series M x.q)))).0

  -- U·(P_1 − P_2)
  abbrev N : List A
  N = mul o u (sub o x.p y.p)

  N_series : series M N ≡ series M u * (series M x.p - series M y.p)
  N_series = series_mul M u _ ∙ ap (λ f. series M u * f) (series_sub M x.p y.p)

  P_series : series M (coprime_p o x y) ≡ series M x.p - series M x.q * series M (coprime_factor o x y)
  P_series = series_sub M x.p _ ∙ ap (λ f. series M x.p - f) (series_mul M x.q _)

  unreduced_series : series M (unreduced_p o D x y u []) ≡ series M x.p + series M x.q * (series M u * (series M y.p - series M x.p) + series M [] * series M (cofactor_at o D x))
  unreduced_series =
      series_add M x.p _
      ∙ ap (λ f. series M x.p + f) (series_mul M (quo o x.q S) _ ∙ ap₂ ◌*◌ first_series (series_add M _ _ ∙ ap₂ ◌+◌ (series_mul M u _ ∙ ap (λ f. series M u * f) (series_sub M y.p x.p)) (series_mul M [] _)))

  -- the two differ by a multiple of Q
  division : series M (unreduced_p o D x y u []) ≡ (- series M (quo o N y.q)) * series M (product_q o x y) + series M (coprime_p o x y)
  division =
      ring_from R[x]
      (series M (unreduced_p o D x y u []) ∷ series M (quo o N y.q) ∷ series M (product_q o x y) ∷ series M (coprime_p o x y) ∷ series M x.p ∷ series M y.p ∷ series M x.q ∷ series M y.q ∷ series M u ∷ series M [] ∷ series M (cofactor_at o D x) ∷ series M N ∷ series M (coprime_factor o x y) ∷ [])
      (plus R[x] (times R[x] 𝟙 unreduced_series) (plus R[x] (times R[x] (- 𝟙) P_series) (plus R[x] (times R[x] (series M x.q * series M (cofactor_at o D x)) (series_nil M)) (plus R[x] (times R[x] (series M x.q) N_series) (plus R[x] (times R[x] (- series M x.q) (series_quo_rem M N y.q)) (times R[x] (series M (quo o N y.q)) (ap (series M) coprime_Q ∙ series_mul M x.q y.q)))))))
      (search quote depth 40 fits 9999) tt

  P_length : length (coprime_p o x y) ≤ hx.κ +ₙ hy.κ
  P_length =
      let a = deg_size K M x.q (monic_deg K hx.monic) in
      let b = deg_size K M y.q (monic_deg K hy.monic) in
      let p = size_le M x.p hx.κ hx.low in
      let r = rem_less M I N y.q (omega arith) in
      let t = length_trim M (coprime_factor o x y) in
      let m = length_mul M x.q (coprime_factor o x y) (hx.κ +ₙ hy.κ) (omega arith) in
      let s = length_trim M (mul o x.q (coprime_factor o x y)) in
      length_sub M x.p (mul o x.q (coprime_factor o x y)) (hx.κ +ₙ hy.κ) (omega arith) (omega arith)

  Q_length : length (trim o (product_q o x y)) ≡ suc (hx.κ +ₙ hy.κ)
  Q_length = let e = Q_size K M I D hx hy in let z = σ_none in omega arith

  pub coprime_P : product_p o D x y (bezout_u o x y) (bezout_w o x y) ≡ coprime_p o x y
  coprime_P =
      product_same K M I D hx hy (bezout_gives K M I D x y) gives
      ∙ series_ext M _ _ (trim_rem M _ _) (trim_sub M _ _) (oks_rem M _ _) (oks_sub M _ _)
      (quo_rem_unique M I (unreduced_p o D x y u []) (product_q o x y) (- series M (quo o N y.q)) (series M (coprime_p o x y)) (length (quo o N y.q)) (let e = Q_length in omega arith)
      quotient_low (λ i h. below_length M (coprime_p o x y) i (let e = Q_length in let l = P_length in omega arith)) division).1
    where
      quotient_low : Low K (- series M (quo o N y.q)) (length (quo o N y.q))
      quotient_low = low_neg K (series M (quo o N y.q)) _ (below_length M (quo o N y.q))
