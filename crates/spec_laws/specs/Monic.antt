-- The unit of index m as polynomials over the field: p and s are monic, p of degree R, and its norm p² − D·s² at
-- the quasi-period is the constant c. Over any coefficients that are those of a field.
use Rattle.std.specs.Prelude.{ℕ, suc, ◌≡◌, refl, List, [], ◌∷◌, length}
use Rattle.std.proofs.Math.Path.{sym, ap, ap₂, subst}
use Rattle.std.proofs.Common.{◌∙◌}
use Rattle.math_ring.specs.Ring.{CRing}
use Rattle.math_ring.specs.Identity.{ring, ring_from, times, plus, quote}
use Rattle.math_ring.specs.Series.{Series, conv, con}
use Rattle.math_algebra.specs.Field.{Field, some_mul}
use Rattle.math_algebra.specs.Polynomial.{F, Px, Deg, Monic, low_path, low_scale, deg_path, con_mul}
use Rattle.math_surd.specs.Distance.{distance, height, s_deg}
use Rattle.math_surd.proofs.Distance.{p_deg}
use Rattle.spec_arithmetic.specs.Field.{Ops}
use Rattle.spec_arithmetic.specs.Polynomials.{lead, scale}
use Rattle.spec_definitions.specs.Walk.{Q, p_before, s_before, degree_before, over_lead, unit_of, signed_q, constant_of}
use Rattle.spec_bridge.specs.Model.{Model, Oks, series}
use Rattle.spec_bridge.specs.Trim.{Trim, series_ext}
use Rattle.spec_bridge.specs.Arithmetic.{at_scale, oks_sub, trim_sub, series_scale}
use Rattle.spec_bridge.specs.One.{series_con, trim_con, oks_con}
use Rattle.spec_laws.specs.Surd.{Surd}
use Rattle.spec_laws.specs.Fraction.{fraction}
use Rattle.spec_laws.specs.Convergents.{p_series, s_series, degree_distance}
use Rattle.spec_laws.specs.Signs.{norm_of, series_norm}
use Rattle.spec_laws.specs.Norms.{signed_q_some, convergent_norm}
use Rattle.spec_laws.specs.Leads.{lead_at_degree, same_lead, over_lead_inverts}

module _ {A B : Type 0} {o : Ops A} {K : Field B} {M : Model o (F K)} {g : ℕ} {D d : List A} (h : Surd K M g D d) (i : ℕ) where
  open F K use {add as ◌+◌, mul as ◌*◌, neg as -◌, zer as 𝟘, one as 𝟙}

  infixl 6 ◌+◌
  infixl 7 ◌*◌
  infix 8 -◌
  abbrev φ : A → B
  φ = M.φ

  abbrev p : List A
  p = p_before o D d (suc i)

  abbrev s : List A
  s = s_before o D d (suc i)

  -- 1/λ and λ
  abbrev over : A
  over = over_lead o D d (suc i)

  abbrev lam : A
  lam = lead o (p_before o D d (suc i))

  some_over : φ over ≡ 𝟘 → ⊥
  some_over e = K.one_not_zero (ring_from (F K) (φ over ∷ φ lam ∷ []) (plus (F K) (times (F K) (- 𝟙) (over_lead_inverts h i)) (times (F K) (φ lam) e)) (search quote depth 40 fits 9999) tt)

  -- ---- monic
  monic_over : (l : List A) (n : ℕ) → Deg K (series M l) n → lead o l ≡ lam → Monic K (series M (scale o over l)) n
  monic_over l n t e = record {
    low = low_path K (suc n) (sym (series_scale M over l)) (low_scale K (φ over) (series M l) (suc n) t.low);
    top = ap φ (at_scale M over l n) ∙ M.φ_mul _ _ ∙ ap (λ (x : B). φ over * x) (sym (lead_at_degree h l n t) ∙ ap φ e) ∙ over_lead_inverts h i;
  }

  pub unit_p_monic : Monic K (series M (unit_of o D d (suc i)).p) (degree_before o D d (suc i))
  unfolding unit_of
  unit_p_monic = subst (Monic K (series M (scale o over p))) (sym (degree_distance h (suc i))) (monic_over p (distance K (fraction h) (suc i)) (deg_path K _ (sym (p_series h (suc i))) (p_deg K (fraction h) (suc i))) refl)

  pub unit_s_monic : Monic K (series M (unit_of o D d (suc i)).s) (height K (fraction h) i)
  unfolding unit_of
  unit_s_monic = monic_over s (height K (fraction h) i) (deg_path K _ (sym (s_series h (suc i))) (s_deg K (fraction h) i)) (same_lead h i)

  -- ---- the norm: that of (p_i, s_i) times 1/λ²
  abbrev P[x] : CRing (Px K)
  P[x] = Series (F K)

  -- p² − D·s² over the field
  abbrev square : Px K → Px K → Px K
  square X Y = P[x].add (conv (F K) X X) (P[x].neg (conv (F K) (series M D) (conv (F K) Y Y)))

  square_over : (k X Y : Px K) → square (conv (F K) k X) (conv (F K) k Y) ≡ conv (F K) (conv (F K) k k) (square X Y)
  square_over k X Y = ring P[x] (k ∷ X ∷ Y ∷ series M D ∷ []) (search quote depth 40 fits 9999) tt

  constant_element : φ (constant_of o D d (suc i)) ≡ φ over * φ over * φ (signed_q o D d (suc i))
  unfolding constant_of
  constant_element = M.φ_mul _ _ ∙ ap (λ (x : B). x * φ (signed_q o D d (suc i))) (M.φ_mul _ _)

  pub constant_ok : M.Ok (constant_of o D d (suc i))
  unfolding constant_of
  constant_ok = M.ok_mul _ _

  module _ (constant : length (Q o D d (suc i)) ≡ 1) where
    constant_some : φ (constant_of o D d (suc i)) ≡ 𝟘 → ⊥
    constant_some e = some_mul K (φ over * φ over) (φ (signed_q o D d (suc i))) (some_mul K (φ over) (φ over) some_over some_over) (signed_q_some h (suc i) constant) (sym constant_element ∙ e)

    pub unit_norm : norm_of o D (unit_of o D d (suc i)).p (unit_of o D d (suc i)).s ≡ constant_of o D d (suc i) ∷ []
    unfolding unit_of
    unit_norm = series_ext M _ _ trimmed (trim_con K M _ constant_some) reduced (oks_con K M _ constant_ok)
        (series_norm K M D (scale o over p) (scale o over s)
        ∙ ap₂ square (series_scale M over p) (series_scale M over s)
        ∙ square_over (con (F K) (φ over)) (series M p) (series M s)
        ∙ ap₂ (conv (F K)) (con_mul K (φ over) (φ over)) (sym (series_norm K M D p s) ∙ ap (series M) (convergent_norm h (suc i) constant) ∙ series_con K M _)
        ∙ con_mul K _ _
        ∙ sym (series_con K M _ ∙ ap (con (F K)) constant_element))
      where
        trimmed : Trim M (norm_of o D (scale o over p) (scale o over s))
        trimmed = unfold norm_of in trim_sub M _ _

        reduced : Oks M (norm_of o D (scale o over p) (scale o over s))
        reduced = unfold norm_of in oks_sub M _ _
