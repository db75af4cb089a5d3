-- The definitions' product of two ideals is the product over the field, with any multipliers U, V, W of S =
-- U-as-Q_1 + V-as-Q_2 + W·(P_1 + P_2): every division in it is exact, and P is the same list for all of them. Each
-- list is read as its polynomial, and quotients of polynomials are unique.
use Rattle.std.specs.Prelude.{ℕ, suc, ◌+◌ as ◌+ₙ◌, ◌-◌ as ◌-ₙ◌, ◌≤◌, ◌≡◌, length}
use Rattle.std.proofs.Common.{arith, sym, ap₂, ◌∙◌}
use Rattle.std.proofs.Math.Path.{ap}
use mathlib.Core.List.{List, [], ◌∷◌}
use Rattle.math_ring.specs.Ring.{CRing}
use Rattle.math_ring.specs.Identity.{ring_from, times, plus, quote}
use Rattle.math_ring.specs.Series.{Series}
use Rattle.math_algebra.specs.Field.{Field}
use Rattle.math_algebra.specs.Polynomial.{F, Px, ◌≺◌ as Low, Deg, Monic, deg_mul, deg_path, deg_not_zero, monic_deg, monic_path}
use Rattle.math_algebra.specs.Divides.{Divides, divides_path, divides_trans}
use Rattle.math_algebra.specs.Division.{Division}
use Rattle.math_algebra.specs.Gcd.{IsGcd, gcd_zero, gcd_monic}
use Rattle.math_surd.specs.Step.{State}
use Rattle.math_algebra.specs.Finite.{Finite, finite_mul, finite_by, finite_monic}
use Rattle.math_ideals.specs.Product.{Common, Multipliers, Meets, product_Q, product_P}
use Rattle.math_ideals.proofs.Product.{product_square, product_monic, meets_unique, remainder_meets, meets_norm}
use Rattle.spec_arithmetic.specs.Field.{Ops}
use Rattle.spec_arithmetic.specs.Polynomials.{trim, add, sub, mul, quo, rem, gcd, Bezout, bezout}
use Rattle.spec_definitions.specs.Walk.{Ideal}
use Rattle.spec_definitions.specs.Products.{product_of}
use Rattle.spec_definitions.specs.Products as lists
use Rattle.spec_bridge.specs.Model.{Model, Inverts, series}
use Rattle.spec_bridge.specs.Trim.{below_length, series_ext}
use Rattle.spec_bridge.specs.Arithmetic.{trim_mul, oks_mul, series_add, series_sub, series_mul}
use Rattle.spec_bridge.specs.Division.{series_quo_rem, rem_below, trim_rem, oks_rem}
use Rattle.spec_bridge.specs.Quotient.{quo_exact}
use Rattle.spec_bridge.specs.Degree.{deg_size}
use Rattle.spec_bridge.specs.Gcd.{bezout_gcd}
use Rattle.spec_bridge.specs.Bezout.{bezout_identity}
use Rattle.spec_bridge.specs.Euclid.{gcd_is}
use Rattle.spec_laws.specs.Pairs.{IsIdeal, norm_at, cofactor_at, series_norm, ideal_state}

module _ {A : Type 0} (o : Ops A) where
  -- ---- S and Q
  abbrev pub common_of : Ideal A → Ideal A → List A
  common_of x y = gcd o (gcd o x.q y.q) (add o x.p y.p)

  abbrev pub product_q : Ideal A → Ideal A → List A
  product_q x y = quo o (mul o x.q y.q) (mul o (common_of x y) (common_of x y))

  -- ---- the definitions take U and W of two greatest common divisors
  abbrev pub bezout_u : Ideal A → Ideal A → List A
  bezout_u x y = mul o (bezout o (gcd o x.q y.q) (add o x.p y.p)).u (bezout o x.q y.q).u

  abbrev pub bezout_v : Ideal A → Ideal A → List A
  bezout_v x y = mul o (bezout o (gcd o x.q y.q) (add o x.p y.p)).u (bezout o x.q y.q).v

  abbrev pub bezout_w : Ideal A → Ideal A → List A
  bezout_w x y = (bezout o (gcd o x.q y.q) (add o x.p y.p)).v

module _ {A : Type 0} (o : Ops A) (D : List A) where
  -- ---- P, with U and W given
  abbrev pub bracket : Ideal A → Ideal A → List A → List A → List A
  bracket x y u w = add o (mul o u (sub o y.p x.p)) (mul o w (cofactor_at o D x))

  -- P before it is reduced modulo Q
  abbrev pub unreduced_p : Ideal A → Ideal A → List A → List A → List A
  unreduced_p x y u w = add o x.p (mul o (quo o x.q (common_of o x y)) (bracket x y u w))

  abbrev pub product_p : Ideal A → Ideal A → List A → List A → List A
  product_p x y u w = rem o (unreduced_p x y u w) (product_q o x y)

module _ {A B : Type 0} {o : Ops A} (K : Field B) (M : Model o (F K)) (I : Inverts M) (D : List A) where
  open Series (F K) use {add as ◌+◌, mul as ◌*◌, neg as -◌, one as 𝟙}

  infixl 6 ◌+◌ ◌-◌
  infixl 7 ◌*◌
  infix 8 -◌
  abbrev R[x] : CRing (Px K)
  R[x] = Series (F K)

  abbrev ◌-◌ : Px K → Px K → Px K
  a - b = a + (- b)

  -- u, v and w give S
  pub record Gives (x y : Ideal A) (u v w : List A) : Type 0 where
    pub is : series M (common_of o x y) ≡ series M u * series M x.q + series M v * series M y.q + series M w * (series M x.p + series M y.p)

  pub product_is : (x y : Ideal A) → product_of o D x y ≡ record { s = common_of o x y; ideal = record { q = product_q o x y; p = product_p o D x y (bezout_u o x y) (bezout_w o x y) } }
  unfolding product_of
  product_is x y = ap with_gcd (bezout_gcd M I x.q y.q) ∙ ap with_common (bezout_gcd M I (gcd o x.q y.q) (add o x.p y.p))
    where
      form : List A → List A → List A → lists.Product A
      form S u w = let Q : List A = quo o (mul o x.q y.q) (mul o S S) in record { s = S; ideal = record { q = Q; p = rem o (add o x.p (mul o (quo o x.q S) (bracket o D x y u w))) Q } }

      with_gcd : List A → lists.Product A
      with_gcd G = let c : Bezout A = bezout o G (add o x.p y.p) in form c.gcd (mul o c.u (bezout o x.q y.q).u) c.v

      with_common : List A → lists.Product A
      with_common S = form S (bezout_u o x y) (bezout_w o x y)

  pub bezout_gives : (x y : Ideal A) → Gives x y (bezout_u o x y) (bezout_v o x y) (bezout_w o x y)
  bezout_gives x y = record {
    is =
        ring_from R[x] (series M S ∷ series M G ∷ series M T ∷ X ∷ Y ∷ U ∷ W ∷ u ∷ v ∷ series M x.q ∷ series M y.q ∷ series M x.p ∷ series M y.p ∷ [])
        (plus R[x] (times R[x] 𝟙 (bezout_identity M I G T)) (plus R[x] (times R[x] U (bezout_identity M I x.q y.q)) (plus R[x] (times R[x] W (series_add M x.p y.p)) (plus R[x] (times R[x] (- series M x.q) (series_mul M c_u b_u)) (times R[x] (- series M y.q) (series_mul M c_u b_v))))))
        (search quote depth 40 fits 9999) tt;
  }
    where
      G : List A
      G = gcd o x.q y.q

      T : List A
      T = add o x.p y.p

      S : List A
      S = gcd o G T

      c_u : List A
      c_u = (bezout o G T).u

      b_u : List A
      b_u = (bezout o x.q y.q).u

      b_v : List A
      b_v = (bezout o x.q y.q).v

      X : Px K
      X = series M (mul o c_u b_u)

      Y : Px K
      Y = series M (mul o c_u b_v)

      U : Px K
      U = series M c_u

      W : Px K
      W = series M (bezout_w o x y)

      u : Px K
      u = series M b_u

      v : Px K
      v = series M b_v

  -- ---- two ideals
  module _ {x y : Ideal A} (hx : IsIdeal K M D x) (hy : IsIdeal K M D y) where
    abbrev Q₁ : Px K
    Q₁ = series M x.q

    abbrev Q₂ : Px K
    Q₂ = series M y.q

    abbrev P₁ : Px K
    P₁ = series M x.p

    abbrev P₂ : Px K
    P₂ = series M y.p

    abbrev S : List A
    S = common_of o x y

    abbrev Q : List A
    Q = product_q o x y

    abbrev s₁ : State K (series M D) Q₁ (series M (cofactor_at o D x)) P₁
    s₁ = ideal_state K M D hx

    abbrev s₂ : State K (series M D) Q₂ (series M (cofactor_at o D y)) P₂
    s₂ = ideal_state K M D hy

    pub common : Common K Q₁ Q₂ (P₁ + P₂) (series M S)
    common = record {
      σ = top.0;
      monic = top.1;
      first = divides_trans K j.left i.left;
      second = divides_trans K j.left i.right;
      sum = divides_path K (series_add M x.p y.p) j.right;
    }
      where
        i : IsGcd K Q₁ Q₂ (series M (gcd o x.q y.q))
        i = gcd_is K M I x.q y.q

        j : IsGcd K (series M (gcd o x.q y.q)) (series M (add o x.p y.p)) (series M S)
        j = gcd_is K M I (gcd o x.q y.q) (add o x.p y.p)

        top : (n : ℕ) × Monic K (series M S) n
        top = gcd_monic K j (λ z. deg_not_zero K (monic_deg K hx.monic) (gcd_zero K i (gcd_zero K j z).0).0)

    -- the degree of S
    abbrev pub σ : ℕ
    σ = common.σ

    pub S_size : length (trim o S) ≡ suc σ
    S_size = deg_size K M S (monic_deg K common.monic)

    -- what S divides is divided exactly
    exact_by : (l : List A) (v : Divides K (series M S) (series M l)) → (series M (quo o l S) ≡ v.by) × (rem o l S ≡ [])
    exact_by l v = quo_exact M I l S v.by v.size (let e = S_size in omega arith) v.low (v.is ∙ R[x].mul_comm (series M S) v.by)

    first_series : series M (quo o x.q S) ≡ common.first.by
    first_series = (exact_by x.q common.first).0

    pub S_divides : (rem o x.q S ≡ []) × (rem o y.q S ≡ []) × (rem o (add o x.p y.p) S ≡ [])
    S_divides = ((exact_by x.q common.first).1, (exact_by y.q common.second).1, (exact_by (add o x.p y.p) (divides_path K (sym (series_add M x.p y.p)) common.sum)).1)

    -- Q_1-as-Q_2 / S² is exact
    Q_exact : (series M Q ≡ product_Q K s₁ s₂ common) × (rem o (mul o x.q y.q) (mul o S S) ≡ [])
    Q_exact = quo_exact M I (mul o x.q y.q) (mul o S S) (product_Q K s₁ s₂ common) f.size (let e = deg_size K M (mul o S S) square_deg in omega arith) f.low exact
      where
        f : Finite K (product_Q K s₁ s₂ common)
        f = finite_mul K (finite_by K common.first) (finite_by K common.second)

        square_deg : Deg K (series M (mul o S S)) (σ +ₙ σ)
        square_deg = deg_path K (σ +ₙ σ) (sym (series_mul M S S)) (deg_mul K (series M S) (series M S) σ σ (monic_deg K common.monic) (monic_deg K common.monic))

        exact : series M (mul o x.q y.q) ≡ product_Q K s₁ s₂ common * series M (mul o S S)
        exact = series_mul M x.q y.q ∙ sym (product_square K s₁ s₂ common) ∙ ap (λ f. product_Q K s₁ s₂ common * f) (sym (series_mul M S S))

    pub Q_series : series M Q ≡ product_Q K s₁ s₂ common
    Q_series = Q_exact.0

    -- Q-as-S² = Q_1-as-Q_2
    pub Q_product : mul o Q (mul o S S) ≡ mul o x.q y.q
    Q_product = series_ext M _ _ (trim_mul M Q (mul o S S)) (trim_mul M x.q y.q) (oks_mul M Q (mul o S S)) (oks_mul M x.q y.q) (series_mul M Q (mul o S S) ∙ ap₂ ◌*◌ Q_series (series_mul M S S) ∙ product_square K s₁ s₂ common ∙ sym (series_mul M x.q y.q))

    -- the degree of Q
    abbrev pub κ : ℕ
    κ = (hx.κ -ₙ σ) +ₙ (hy.κ -ₙ σ)

    pub common_le : (σ ≤ hx.κ) × (σ ≤ hy.κ)
    common_le = let m = product_monic K s₁ s₂ common hx.monic hy.monic in (m.0, m.1)

    pub Q_monic : Monic K (series M Q) κ
    Q_monic = monic_path K κ (sym Q_series) (product_monic K s₁ s₂ common hx.monic hy.monic).2

    pub Q_size : length (trim o Q) ≡ suc κ
    Q_size = deg_size K M Q (monic_deg K Q_monic)

    -- ---- P
    module _ {u v w : List A} (h : Gives x y u v w) where
      abbrev b : Multipliers K Q₁ Q₂ (P₁ + P₂) (series M S)
      b = record {
        u = series M u;
        v = series M v;
        w = series M w;
        u_finite = record { size = length u; low = below_length M u };
        v_finite = record { size = length v; low = below_length M v };
        w_finite = record { size = length w; low = below_length M w };
        is = h.is;
      }

      abbrev P : List A
      P = product_p o D x y u w

      unreduced_series : series M (unreduced_p o D x y u w) ≡ product_P K s₁ s₂ common b
      unreduced_series = series_add M x.p _ ∙ ap (λ f. P₁ + f) (series_mul M (quo o x.q S) _ ∙ ap₂ ◌*◌ first_series (series_add M _ _ ∙ ap₂ ◌+◌ (series_mul M u _ ∙ ap (λ f. series M u * f) (series_sub M y.p x.p)) (series_mul M w _)))

      pub P_low : Low K (series M P) κ
      P_low i l = let e = Q_size in rem_below M I (unreduced_p o D x y u w) Q (omega arith) i (omega arith)

      division : Division K (product_P K s₁ s₂ common b) (product_Q K s₁ s₂ common) (length (quo o (unreduced_p o D x y u w) Q)) κ
      division = record {
        quo = series M (quo o (unreduced_p o D x y u w) Q);
        rem = series M P;
        is = sym unreduced_series ∙ series_quo_rem M (unreduced_p o D x y u w) Q ∙ ap (λ f. series M (quo o (unreduced_p o D x y u w) Q) * f + series M P) Q_series;
        quo_low = below_length M (quo o (unreduced_p o D x y u w) Q);
        rem_low = P_low;
      }

      pub P_meets : Meets K (series M D) P₁ P₂ (series M S) common.first.by common.second.by (series M P)
      unfolding division
      P_meets = remainder_meets K s₁ s₂ common b division

      -- the product is an ideal again
      pub product_ideal : IsIdeal K M D (record { q = Q; p = P })
      product_ideal = record { κ = κ; monic = Q_monic; low = P_low; divides = exact }
        where
          d : Divides K (product_Q K s₁ s₂ common) (series M D - series M P * series M P)
          d = meets_norm K (finite_monic K common.monic) P_meets

          exact : rem o (norm_at o D (record { q = Q; p = P })) Q ≡ []
          exact = (quo_exact M I _ Q d.by d.size (let e = Q_size in omega arith) d.low (series_norm K M D (record { q = Q; p = P }) ∙ d.is ∙ R[x].mul_comm _ d.by ∙ ap (λ f. d.by * f) (sym Q_series))).1

    -- P does not depend on the multipliers
    pub product_same : {u v w u' v' w' : List A} → Gives x y u v w → Gives x y u' v' w' → product_p o D x y u w ≡ product_p o D x y u' w'
    product_same {u} {v} {w} {u'} {v'} {w'} h h' =
        series_ext M _ _ (trim_rem M _ Q) (trim_rem M _ Q) (oks_rem M _ Q) (oks_rem M _ Q)
        (meets_unique K s₁ s₂ common (b h) κ (monic_deg K (monic_path K κ Q_series Q_monic)) (P_low h) (P_low h') (P_meets h) (P_meets h'))
