-- Associates: polynomials that differ by a constant factor other than 0, f = c g. They have the same degree,
-- the same multiples and the same divisors.
use Rattle.std.specs.Prelude.{ℕ, ◌≡◌, [], ◌∷◌}
use Rattle.std.proofs.Common.{sym, ap, ◌∙◌, subst}
use Rattle.math_ring.specs.Ring.{CRing, eq_of_sub}
use Rattle.math_ring.specs.Identity.{ring, ring_from, times, plus, quote}
use Rattle.math_ring.specs.Series.{Series, con}
use Rattle.math_ring.specs.Division.{below_con}
use Rattle.math_algebra.specs.Field.{Field, some_mul, some_inv}
use Rattle.math_algebra.specs.Polynomial.{F, Px, ◌≺◌ as Low, Deg, Monic, low_sub, low_scale, low_one, cancel, deg_path, deg_scale, con_mul, con_inv}
use Rattle.math_algebra.specs.Divides.{Divides, divides_trans, divides_monic}

module _ {A : Type 0} (K : Field A) where
  open Series (F K) use {add as ◌+◌, mul as ◌*◌, neg as -◌, zer as 𝟘, one as 𝟙}

  infixl 6 ◌+◌ ◌-◌
  infixl 7 ◌*◌
  infix 8 -◌
  infix 4 ◌≺◌
  abbrev R[x] : CRing (Px K)
  R[x] = Series (F K)

  abbrev ◌-◌ : Px K → Px K → Px K
  a - b = a + (- b)

  abbrev ◌≺◌ : Px K → ℕ → Type 0
  ◌≺◌ = Low K

  pub record Associate (f g : Px K) : Type 0 where
    pub factor : A
    pub some : factor ≡ (F K).zer → ⊥
    pub is : f ≡ con (F K) factor * g

  -- ---- an equivalence
  pub associate_refl : (f : Px K) → Associate f f
  associate_refl f = record { factor = (F K).one; some = K.one_not_zero; is = ring R[x] (f ∷ []) (search quote depth 40 fits 9999) tt }

  pub associate_sym : {f g : Px K} → Associate f g → Associate g f
  associate_sym {f} {g} a = record {
    factor = K.inv a.factor;
    some = some_inv K a.factor a.some;
    is = ring_from R[x] (f ∷ g ∷ con (F K) a.factor ∷ con (F K) (K.inv a.factor) ∷ []) (plus R[x] (times R[x] (- con (F K) (K.inv a.factor)) a.is) (times R[x] (- g) (con_inv K a.factor a.some))) (search quote depth 40 fits 9999) tt;
  }

  pub associate_trans : {f g h : Px K} → Associate f g → Associate g h → Associate f h
  associate_trans {f} {g} {h} a b = record {
    factor = (F K).mul a.factor b.factor;
    some = some_mul K a.factor b.factor a.some b.some;
    is = ring_from R[x] (f ∷ g ∷ h ∷ con (F K) a.factor ∷ con (F K) b.factor ∷ con (F K) ((F K).mul a.factor b.factor) ∷ []) (plus R[x] (times R[x] 𝟙 a.is) (plus R[x] (times R[x] (con (F K) a.factor) b.is) (times R[x] h (con_mul K a.factor b.factor)))) (search quote depth 40 fits 9999) tt;
  }

  pub associate_path : {f g : Px K} → f ≡ g → Associate f g
  associate_path {f} e = subst (λ h. Associate f h) e (associate_refl f)

  -- ---- the same degree
  pub associate_deg : {f g : Px K} {n : ℕ} → Associate f g → Deg K g n → Deg K f n
  associate_deg {f} {g} {n} a t = deg_path K n (sym a.is) (deg_scale K a.factor g n a.some t)

  pub associate_low : {f g : Px K} (n : ℕ) → Associate f g → g ≺ n → f ≺ n
  associate_low {f} {g} n a h = subst (λ k. k ≺ n) (sym a.is) (low_scale K a.factor g n h)

  -- ---- each divides the other
  pub associate_divides : {f g : Px K} → Associate f g → Divides K g f
  associate_divides {f} {g} a = record { by = con (F K) a.factor; size = 1; low = below_con (F K) a.factor; is = a.is ∙ R[x].mul_comm (con (F K) a.factor) g }

  pub divides_associate : {f g h : Px K} → Associate f g → Divides K f h → Divides K g h
  divides_associate a d = divides_trans K (associate_divides a) d

  -- f h = g k with f an associate of g: h and k are associates
  pub associate_cofactor : {f g : Px K} (h k : Px K) (m n : ℕ) → Associate f g → Deg K g m → h ≺ n → k ≺ n → f * h ≡ g * k → Associate k h
  associate_cofactor {f} {g} h k m n a t bh bk e = record {
    factor = a.factor;
    some = a.some;
    is = eq_of_sub R[x] k (con (F K) a.factor * h) (cancel K n (k - con (F K) a.factor * h) g m t (low_sub K k _ n bk (low_scale K a.factor h n bh)) gone);
  }
    where
      gone : (k - con (F K) a.factor * h) * g ≡ 𝟘
      gone = ring_from R[x] (f ∷ g ∷ h ∷ k ∷ con (F K) a.factor ∷ []) (plus R[x] (times R[x] (- 𝟙) e) (times R[x] h a.is)) (search quote depth 40 fits 9999) tt

  -- ---- where they come from
  -- constants other than 0
  pub associate_one : {f : Px K} → Deg K f 0 → Associate f 𝟙
  associate_one {f} t = record { factor = f 0; some = t.top; is = low_one K f t.low ∙ ring R[x] (con (F K) (f 0) ∷ []) (search quote depth 40 fits 9999) tt }

  -- multiples by them
  pub associate_scale : (c f : Px K) → Deg K c 0 → Associate (c * f) f
  associate_scale c f t = record { factor = c 0; some = t.top; is = ap (λ (u : Px K). u * f) (low_one K c t.low) }

  -- ---- monic ones are equal
  pub associate_monic_equal : {f g : Px K} {m n : ℕ} → Monic K f m → Monic K g n → Associate f g → f ≡ g
  associate_monic_equal hf hg a = divides_monic K hf hg (associate_divides (associate_sym a)) (associate_divides a)
