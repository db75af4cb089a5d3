-- (D − P²)/Q as the walk's quotient of the places of D less those of P² from the leading one of Q on: those below
-- it have no part in the quotient.
use Rattle.std.specs.Prelude.{ℕ, ◌+◌ as ◌+ₙ◌, ◌-◌ as ◌-ₙ◌, ◌≤◌, ◌<◌, ◌≡◌, List, [], ◌∷◌, length, get_or}
use Rattle.std.proofs.Common.{arith, ◌∙◌, subst}
use Rattle.std.proofs.Math.Path.{refl, sym, ap, ap₂, fun_ext}
use Rattle.std.proofs.Math.ListN.{get_or-eq_default}
use Rattle.math_ring.specs.Ring.{CRing}
use Rattle.math_ring.specs.Identity.{ring_from, times, quote}
use Rattle.math_ring.specs.Residues.{Fq, FqRing}
use Rattle.math_ring.specs.Series.{S, Series, add_s, conv, neg_s}
use Rattle.math_ring.specs.Degree.{Below}
use Rattle.spec_arithmetic.specs.Field.{FieldName, ops}
use Rattle.spec_arithmetic.specs.Polynomials.{trim, sub, mul, quo, rem}
use Rattle.spec_bridge.specs.Prime.{Prime}
use Rattle.spec_bridge.specs.Model.{Model, Inverts, series}
use Rattle.spec_bridge.specs.Trim.{length_trim, lead_some, below_length, series_ext}
use Rattle.spec_bridge.specs.Arithmetic.{series_sub, mul_cong, oks_mul}
use Rattle.spec_bridge.specs.Lengths.{length_sub, length_mul}
use Rattle.spec_bridge.specs.Division.{trim_quo, oks_quo, series_quo_rem, rem_below}
use Rattle.spec_bridge.specs.Quotient.{quo_length, quo_cong, quo_rem_unique}
use Rattle.spec_bridge.specs.Residues.{model, inverts, pos}
use Rattle.spec_laws.specs.Pairs.{norm_at, cofactor_at}
use Rattle.base_places.specs.Dots.{mul_past}
use Rattle.base_places.specs.Places.{Places, Top}
use Rattle.base_polynomial.specs.declared.Poly.{Poly}
use Rattle.base_polynomial.specs.Over.{poly, Held, Is, at_poly, held_size}
use Rattle.base_polynomial.specs.Linear.{held_within, is_result, lead_place}
use Rattle.walk_step.specs.Step.{step_quo, Division}
use Rattle.base_ideal.specs.declared.Ideal.{Ideal}
use Rattle.ideal_operand.specs.Operand.{held_pair}
use Rattle.ideal_operand.specs.Upper.{upper, upper_at, upper_zero, upper_less}

module _ {f : FieldName} (prime : Prime f.q) (D : Poly) (held_D : Held f D) (x : Ideal) (held_q : Held f x.q) (some : 0 < x.q.size) (held_p : Held f x.p) {s : List ℕ} (s_is : Places s (upper (x.q.size -ₙ 1) (λ i. get_or (mul (ops f) x.p.c x.p.c) i 0))) where
  abbrev positive : 0 < f.q
  positive = pos f.q prime

  abbrev R : CRing (Fq f.q)
  R = FqRing f.q positive

  abbrev M : Model (ops f) R
  M = model f.q positive

  abbrev I : Inverts M
  I = inverts f.q positive prime

  abbrev cofactor : List ℕ
  cofactor = cofactor_at (ops f) (poly D) (held_pair x)

  abbrev Q : List ℕ
  Q = poly x.q

  -- D − P², and the same with the places that are formed
  abbrev norm : List ℕ
  norm = norm_at (ops f) (poly D) (held_pair x)

  abbrev formed : List ℕ
  formed = sub (ops f) D.c s

  -- an array has the coefficients of its polynomial
  same : (a : Poly) → Held f a → series M a.c ≡ series M (poly a)
  same a h = fun_ext (λ i. ap M.φ (sym (at_poly {a = a} h i)))

  square_at : (i : ℕ) → x.q.size -ₙ 1 ≤ i → series M s i ≡ series M (mul (ops f) (poly x.p) (poly x.p)) i
  square_at i h = ap M.φ (s_is.at i ∙ upper_at _ _ i h ∙ ap (λ (v : List ℕ). get_or v i 0) (mul_cong M x.p.c _ x.p.c _ (same x.p held_p) (same x.p held_p)))

  -- they differ below the leading place of Q alone
  gap : S R
  gap = add_s R (series M norm) (neg_s R (series M formed))

  gap_below : Below R gap (x.q.size -ₙ 1)
  unfolding gap add_s neg_s
  gap_below i h =
      ap₂ (λ u v. R.add u (R.neg v))
      (ap (λ (g : S R). g i) (series_sub M (poly D) (mul (ops f) (poly x.p) (poly x.p))) ∙ ap (λ v. R.add (series M (poly D) i) (R.neg v)) (sym (square_at i h)))
      (ap (λ (g : S R). g i) (series_sub M D.c s) ∙ ap (λ v. R.add v (R.neg (series M s i))) (ap (λ (g : S R). g i) (same D held_D)))
      ∙ R.add_neg _

  size_Q : length (trim (ops f) Q) ≡ x.q.size
  size_Q = held_size {a = x.q} held_q

  division : series M norm ≡ add_s R (conv R (series M (quo (ops f) formed Q)) (series M Q)) (add_s R (series M (rem (ops f) formed Q)) gap)
  unfolding gap
  division =
      ring_from (Series R) (series M norm ∷ series M formed ∷ series M (quo (ops f) formed Q) ∷ series M Q ∷ series M (rem (ops f) formed Q) ∷ [])
      (times (Series R) (Series R).one (series_quo_rem M formed Q)) (search quote depth 40 fits 9999) tt

  rest_low : Below R (add_s R (series M (rem (ops f) formed Q)) gap) (length (trim (ops f) Q) -ₙ 1)
  unfolding add_s
  rest_low i h = ap₂ R.add (rem_below M I formed Q (let e = size_Q in omega arith) i h) (gap_below i (let e = size_Q in omega arith)) ∙ R.add_zer _

  quotient_is : step_quo f D.c x.q.c s ≡ cofactor
  unfolding step_quo
  quotient_is =
      quo_cong M I formed formed x.q.c Q refl (same x.q held_q)
      ∙ sym (series_ext M _ _ (trim_quo M _ _) (trim_quo M _ _) (oks_quo M _ _) (oks_quo M _ _)
      (quo_rem_unique M I norm Q (series M (quo (ops f) formed Q)) (add_s R (series M (rem (ops f) formed Q)) gap) (length (quo (ops f) formed Q)) (let e = size_Q in omega arith) (below_length M (quo (ops f) formed Q)) rest_low division).0)

  module _ (end : ℕ) (D_fits : D.size ≤ end) (square_fits : x.p.size +ₙ x.p.size -ₙ 1 ≤ end) where
    -- what the quotient asks for
    pub cofactor_division : Division f end x.q.size D.c x.q.c s
    cofactor_division =
        let p_within = held_within f.q x.p.c x.p.size x.p.size held_p (omega arith) in
        record {
          twice_within = held_within f.q D.c D.size end held_D D_fits;
          rest_within = record {
            reduced = λ i. subst (λ (v : ℕ). v < f.q) (sym (s_is.at i)) (upper_less _ _ f.q i positive (oks_mul M x.p.c x.p.c i));
            past = λ i w. s_is.at i ∙ upper_zero _ _ i (mul_past f.q positive x.p.c x.p.c x.p.size x.p.size p_within.past p_within.past i (omega arith));
          };
          current_within = held_within f.q x.q.c x.q.size x.q.size held_q (omega arith);
          lead_some = λ w. lead_some M Q (let v = size_Q in omega arith) (ap M.φ (lead_place f.q x.q.c x.q.size held_q ∙ w) ∙ M.φ_zer);
        }

    cofactor_length : length cofactor ≤ end +ₙ 1 -ₙ x.q.size
    cofactor_length =
        let a = held_size {a = D} held_D in
        let b = held_size {a = x.p} held_p in
        let u = size_Q in
        let v = length_mul M (poly x.p) (poly x.p) end (omega arith) in
        let w = length_trim M (mul (ops f) (poly x.p) (poly x.p)) in
        let t = length_sub M (poly D) (mul (ops f) (poly x.p) (poly x.p)) end (omega arith) (omega arith) in
        let y = length_trim M norm in
        let z = quo_length M norm Q in
        omega arith

    -- what it gives
    module _ {z : List ℕ} (z_is : Places z (λ i. get_or (step_quo f D.c x.q.c s) i 0)) where
      places : Places z (λ i. get_or cofactor i 0)
      places = record { long = z_is.long; at = λ i. z_is.at i ∙ ap (λ (v : List ℕ). get_or v i 0) quotient_is }

      pub cofactor_past : (i : ℕ) → end +ₙ 1 -ₙ x.q.size ≤ i → get_or z i 0 ≡ 0
      cofactor_past i w = places.at i ∙ get_or-eq_default cofactor 0 {n = i} (let e = cofactor_length in omega arith)

      pub cofactor_is : {r : ℕ} → Top z r → Is f (record { c = z; size = r }) cofactor
      cofactor_is {r} t = is_result f.q positive z r cofactor (trim_quo M _ _) places t
