-- The leading coefficients of the convergents: p_i and s_i have the same, λ_i. λ_0 is 1, and λ_{i+1} is λ_i
-- times 2/lc Q_{i+1}, which is the leading coefficient of a_{i+1}. So a run that keeps the product of 2/lc Q_j for
-- all j below i has twice the leading coefficient of p_{i−1} at hand, from index 1 on. Over any coefficients that
-- are those of a field.
use Rattle.std.specs.Prelude.{ℕ, zero, suc, ◌-◌ as ◌-ₙ◌, ◌≡◌, List, [], ◌∷◌, length}
use Rattle.std.proofs.Common.{add_comm, arith, ◌∙◌, subst}
use Rattle.std.proofs.Math.Path.{refl, sym, ap, ap₂}
use Rattle.math_ring.specs.Identity.{ring_from, times, plus, quote}
use Rattle.math_ring.specs.Series.{add_s, conv}
use Rattle.math_ring.specs.Degree.{lead_conv}
use Rattle.math_algebra.specs.Field.{Field, some_mul}
use Rattle.math_algebra.specs.Polynomial.{F, Px, Deg, deg_path}
use Rattle.math_surd.specs.Walk.{a_deg}
use Rattle.math_surd.proofs.Walk.{a_top}
use Rattle.math_surd.specs.Convergents as convergents
use Rattle.math_surd.specs.Distance.{distance, height, s_deg}
use Rattle.math_surd.proofs.Distance.{distance_rise, p_deg, p_top}
use Rattle.spec_arithmetic.specs.Field.{Ops}
use Rattle.spec_arithmetic.specs.Polynomials.{at, trim, lead}
use Rattle.spec_definitions.specs.Walk.{Q, p_before, s_before, over_lead, signed_q, constant_of}
use Rattle.spec_bridge.specs.Model.{Model, Oks, series}
use Rattle.spec_bridge.specs.Trim.{lead_is, lead_some}
use Rattle.spec_bridge.specs.Degree.{deg_size}
use Rattle.spec_laws.specs.Surd.{Surd, Q_zero, Q_trim}
use Rattle.spec_laws.specs.Fraction.{fraction, Q_deg}
use Rattle.spec_laws.specs.Norms.{signed_q_ok}
use Rattle.spec_laws.specs.Convergents.{p_series, s_series, p_trim, p_oks, p_length, s_oks, s_one}

-- 2/x
abbrev pub two_over : {A : Type 0} → Ops A → A → A
two_over o x = o.add (o.inv x) (o.inv x)

module _ {A : Type 0} (o : Ops A) (D d : List A) where
  -- the product of 2/lc Q_j for all j below i
  unfoldable pub leads_to : ℕ → A
  leads_to zero = o.one
  leads_to (suc i) = o.mul (leads_to i) (two_over o (lead o (Q o D d i)))

  pub leads_zero : leads_to 0 ≡ o.one
  unfolding leads_to
  leads_zero = refl

  pub leads_suc : (i : ℕ) → leads_to (suc i) ≡ o.mul (leads_to i) (two_over o (lead o (Q o D d i)))
  unfolding leads_to
  leads_suc i = refl

-- ---- over a field
module _ {A B : Type 0} {o : Ops A} {K : Field B} {M : Model o (F K)} {g : ℕ} {D d : List A} (h : Surd K M g D d) where
  open F K use {add as ◌+◌, mul as ◌*◌, neg as -◌, zer as 𝟘, one as 𝟙}

  infixl 6 ◌+◌
  infixl 7 ◌*◌
  infix 8 -◌
  abbrev φ : A → B
  φ = M.φ

  -- λ_i, and the leading coefficient of Q_i
  abbrev lead_p : ℕ → A
  lead_p i = lead o (p_before o D d (suc i))

  abbrev lead_q : ℕ → A
  lead_q i = lead o (Q o D d i)

  -- ---- as places of polynomials
  pub lead_at_degree : (l : List A) (n : ℕ) → Deg K (series M l) n → M.φ (lead o l) ≡ series M l n
  lead_at_degree l n t = ap φ (lead_is M l) ∙ ap (series M l) (let e : length (trim o l) -ₙ 1 ≡ n = omega (arith, deg_size K M l t) in e)

  p_place : (i : ℕ) → φ (lead_p i) ≡ convergents.p K (fraction h) (suc (suc i)) (distance K (fraction h) (suc i))
  p_place i = lead_at_degree (p_before o D d (suc i)) _ (deg_path K _ (sym (p_series h (suc i))) (p_deg K (fraction h) (suc i))) ∙ ap (λ (f : Px K). f (distance K (fraction h) (suc i))) (p_series h (suc i))

  s_place : (i : ℕ) → φ (lead o (s_before o D d (suc i))) ≡ convergents.s K (fraction h) (suc (suc i)) (height K (fraction h) i)
  s_place i = lead_at_degree (s_before o D d (suc i)) _ (deg_path K _ (sym (s_series h (suc i))) (s_deg K (fraction h) i)) ∙ ap (λ (f : Px K). f (height K (fraction h) i)) (s_series h (suc i))

  Q_place : (i : ℕ) → φ (lead_q i) ≡ series M (Q o D d i) (length (Q o D d i) -ₙ 1)
  Q_place i = lead_at_degree (Q o D d i) _ (Q_deg h i)

  -- ---- p_i and s_i have the same leading coefficient
  same_element : (i : ℕ) → φ (lead o (s_before o D d (suc i))) ≡ φ (lead_p i)
  same_element i = s_place i ∙ sym (p_place i ∙ p_top K (fraction h) i)

  ok_lead : (l : List A) → Oks M l → M.Ok (lead o l)
  ok_lead l k = subst M.Ok (sym (lead_is M l)) (k _)

  pub same_lead : (i : ℕ) → lead o (s_before o D d (suc i)) ≡ lead o (p_before o D d (suc i))
  same_lead i = M.inj _ _ (ok_lead _ (s_oks h (suc i))) (ok_lead _ (p_oks h (suc i))) (same_element i)

  -- ---- λ_0 = 1, and λ_{i+1}·lc Q_{i+1} = 2·λ_i
  first_lead : φ (lead_p 0) ≡ 𝟙
  first_lead = sym (same_element 0) ∙ lead_at_degree (s_before o D d 1) 0 (deg_path K 0 (sym (s_series h 1)) (s_deg K (fraction h) 0)) ∙ ap (λ (l : List A). series M l 0) (s_one h) ∙ M.φ_one

  abbrev κ : ℕ → ℕ
  κ i = length (Q o D d i) -ₙ 1

  p_next : (i : ℕ) → convergents.p K (fraction h) (suc (suc (suc i))) (distance K (fraction h) (suc (suc i))) ≡ (fraction h).a (suc i) (suc g -ₙ κ (suc i)) * convergents.p K (fraction h) (suc (suc i)) (distance K (fraction h) (suc i))
  unfolding add_s
  p_next i =
      ap₂ ◌+◌ (ap (conv (F K) ((fraction h).a (suc i)) (convergents.p K (fraction h) (suc (suc i)))) (add_comm (distance K (fraction h) (suc i)) (suc g -ₙ κ (suc i))) ∙ lead_conv (F K) (suc g -ₙ κ (suc i)) (distance K (fraction h) (suc i)) ((fraction h).a (suc i)) (convergents.p K (fraction h) (suc (suc i))) (a_deg K (fraction h) (suc i)).low (p_deg K (fraction h) (suc i)).low) ((p_deg K (fraction h) i).low _ (distance_rise K (fraction h) i (suc (suc i)) (omega arith)))
      ∙ (F K).add_zer _

  next_lead : (i : ℕ) → φ (lead_p (suc i)) * φ (lead_q (suc i)) ≡ φ (lead_p i) + φ (lead_p i)
  next_lead i = ap₂ ◌*◌ (p_place (suc i) ∙ p_next i) (Q_place (suc i)) ∙ turn ∙ sym (ap (λ (x : B). x + x) (p_place i))
    where
      x : B
      x = (fraction h).a (suc i) (suc g -ₙ κ (suc i))

      y : B
      y = convergents.p K (fraction h) (suc (suc i)) (distance K (fraction h) (suc i))

      z : B
      z = series M (Q o D d (suc i)) (κ (suc i))

      turn : x * y * z ≡ y + y
      turn = ring_from (F K) (x ∷ y ∷ z ∷ []) (times (F K) y (a_top K (fraction h) i)) (search quote depth 40 fits 9999) tt

  -- ---- none of them is 0, and each has its inverse
  pub some_lead : (m : ℕ) → M.φ (lead o (p_before o D d m)) ≡ 𝟘 → ⊥
  some_lead m = lead_some M (p_before o D d m) (let e = ap length (p_trim h m) in let l = p_length h m in omega arith)

  pub over_lead_inverts : (i : ℕ) → M.φ (over_lead o D d (suc i)) * M.φ (lead o (p_before o D d (suc i))) ≡ 𝟙
  unfolding over_lead
  over_lead_inverts i = h.inverts.inv_mul (lead_p i) (some_lead (suc i))

  over_Q : (i : ℕ) → φ (o.inv (lead_q i)) * φ (lead_q i) ≡ 𝟙
  over_Q i = h.inverts.inv_mul (lead_q i) (λ e. (Q_deg h i).top (sym (Q_place i) ∙ e))

  -- the last coefficient of Q_i
  pub lead_Q_is : (i : ℕ) → lead o (Q o D d i) ≡ at o (Q o D d i) (length (Q o D d i) -ₙ 1)
  lead_Q_is i = lead_is M (Q o D d i) ∙ ap (λ (l : List A). at o (Q o D d i) (length l -ₙ 1)) (Q_trim h i)

  -- ---- the product is 2·λ from index 1 on
  leads_next : (i : ℕ) → φ (leads_to o D d (suc i)) ≡ φ (leads_to o D d i) * (φ (o.inv (lead_q i)) + φ (o.inv (lead_q i)))
  leads_next i = ap φ (leads_suc o D d i) ∙ M.φ_mul _ _ ∙ ap (λ (x : B). φ (leads_to o D d i) * x) (M.φ_add _ _)

  leads_first : φ (leads_to o D d 0) ≡ 𝟙
  leads_first = ap φ (leads_zero o D d) ∙ M.φ_one

  first_Q : φ (lead_q 0) ≡ 𝟙
  first_Q = Q_place 0 ∙ ap (λ (l : List A). series M l (length l -ₙ 1)) (Q_zero h) ∙ M.φ_one

  twice_lead : (i : ℕ) → φ (leads_to o D d (suc i)) ≡ φ (lead_p i) + φ (lead_p i)
  twice_lead zero =
      let x : B = φ (o.inv (lead_q 0)) in
      leads_next 0
      ∙ ring_from (F K) (φ (leads_to o D d 0) ∷ φ (o.inv (lead_q 0)) ∷ φ (lead_q 0) ∷ φ (lead_p 0) ∷ [])
      (plus (F K) (times (F K) (x + x) leads_first) (plus (F K) (times (F K) (𝟙 + 𝟙) (over_Q 0)) (plus (F K) (times (F K) (- (x + x)) first_Q) (times (F K) (- (𝟙 + 𝟙)) first_lead))))
      (search quote depth 40 fits 9999) tt
  twice_lead (suc i) =
      let x : B = φ (o.inv (lead_q (suc i))) in
      let y : B = φ (lead_p (suc i)) in
      leads_next (suc i)
      ∙ ring_from (F K) (φ (leads_to o D d (suc i)) ∷ φ (o.inv (lead_q (suc i))) ∷ φ (lead_q (suc i)) ∷ φ (lead_p i) ∷ φ (lead_p (suc i)) ∷ [])
      (plus (F K) (times (F K) (x + x) (twice_lead i)) (plus (F K) (times (F K) (- (x + x)) (next_lead i)) (times (F K) (y + y) (over_Q (suc i)))))
      (search quote depth 40 fits 9999) tt

  some_leads : (i : ℕ) → φ (leads_to o D d (suc i)) ≡ 𝟘 → ⊥
  some_leads i e = some_mul K (𝟙 + 𝟙) (φ (lead_p i)) K.two_not_zero (some_lead (suc i)) (ring_from (F K) (φ (lead_p i) ∷ φ (leads_to o D d (suc i)) ∷ []) (plus (F K) (times (F K) (- 𝟙) (twice_lead i)) (times (F K) 𝟙 e)) (search quote depth 40 fits 9999) tt)

  -- 1/λ is twice the inverse of that product
  pub over_leads : (i : ℕ) → over_lead o D d (suc i) ≡ two_over o (leads_to o D d (suc i))
  over_leads i = M.inj _ _ (ok_over i) (M.ok_add _ _) (same ∙ sym (M.φ_add _ _))
    where
      ok_over : (i : ℕ) → M.Ok (over_lead o D d (suc i))
      ok_over i = unfold over_lead in h.inverts.ok_inv _

      x : B
      x = φ (over_lead o D d (suc i))

      y : B
      y = φ (o.inv (leads_to o D d (suc i)))

      same : x ≡ y + y
      same = ring_from (F K) (x ∷ y ∷ φ (leads_to o D d (suc i)) ∷ φ (lead_p i) ∷ [])
          (plus (F K) (times (F K) (- x) (h.inverts.inv_mul (leads_to o D d (suc i)) (some_leads i))) (plus (F K) (times (F K) (x * y) (twice_lead i)) (times (F K) (y + y) (over_lead_inverts i))))
          (search quote depth 40 fits 9999) tt

  -- ---- c·λ² = (−1)^m·Q_m
  pub constant_lead : (i : ℕ) → o.mul (constant_of o D d (suc i)) (o.mul (lead o (p_before o D d (suc i))) (lead o (p_before o D d (suc i)))) ≡ signed_q o D d (suc i)
  unfolding constant_of
  constant_lead i = M.inj _ _ (M.ok_mul _ _) (signed_q_ok h (suc i))
      (M.φ_mul _ _
      ∙ ap₂ ◌*◌ (M.φ_mul _ _ ∙ ap (λ (x : B). x * φ (signed_q o D d (suc i))) (M.φ_mul _ _)) (M.φ_mul _ _)
      ∙ ring_from (F K) (φ (over_lead o D d (suc i)) ∷ φ (lead_p i) ∷ φ (signed_q o D d (suc i)) ∷ []) (times (F K) (φ (signed_q o D d (suc i)) * (φ (over_lead o D d (suc i)) * φ (lead_p i) + 𝟙)) (over_lead_inverts i)) (search quote depth 40 fits 9999) tt)

  -- no other coefficient has this product with λ²
  pub constant_only : (i : ℕ) (c : A) → M.Ok c → o.mul c (o.mul (lead o (p_before o D d (suc i))) (lead o (p_before o D d (suc i)))) ≡ signed_q o D d (suc i) → c ≡ constant_of o D d (suc i)
  unfolding constant_of
  constant_only i c k e = M.inj _ _ k (M.ok_mul _ _)
      (ring_from (F K) (φ (over_lead o D d (suc i)) ∷ φ (lead_p i) ∷ φ (signed_q o D d (suc i)) ∷ φ c ∷ [])
      (plus (F K) (times (F K) (x * x) (sym (M.φ_mul _ _ ∙ ap (λ (y : B). φ c * y) (M.φ_mul _ _)) ∙ ap φ e)) (times (F K) (- (φ c * (x * φ (lead_p i) + 𝟙))) (over_lead_inverts i)))
      (search quote depth 40 fits 9999) tt
      ∙ sym (M.φ_mul _ _ ∙ ap (λ (y : B). y * φ (signed_q o D d (suc i))) (M.φ_mul _ _)))
    where
      x : B
      x = φ (over_lead o D d (suc i))
