-- A polynomial made monic: the inverse of the leading coefficient depends on the polynomial alone, and the
-- degree stays.
use Rattle.std.specs.Prelude.{ℕ, ◌-◌ as ◌-ₙ◌, ◌≤◌, ◌<◌, ◌≡◌, refl, Bool, true, false, List, [], ◌∷◌}
use Rattle.std.proofs.Common.{arith, sym, ◌∙◌}
use Rattle.std.proofs.Math.Path.{ap}
use Rattle.std.proofs.Math.Logic.{⊎_elim}
use Rattle.std.proofs.Math.ListN.{length}
use Rattle.math_ring.specs.Ring.{CRing}
use Rattle.math_ring.specs.Identity.{ring_from, times, plus, quote}
use Rattle.math_ring.specs.Order.{le_or_lt}
use Rattle.math_ring.specs.Series.{S, conv, con}
use Rattle.spec_arithmetic.specs.Field.{Ops}
use Rattle.spec_arithmetic.specs.Polynomials.{trim, size, deg, scale, lead, monic}
use Rattle.spec_bridge.specs.Model.{Model, Inverts, Oks, series}
use Rattle.spec_bridge.specs.Trim.{Trim, below_length, size_series, lead_some, lead_is}
use Rattle.spec_bridge.specs.Arithmetic.{at_scale, scale_cong, trim_scale, oks_scale, series_scale}
use Rattle.spec_bridge.specs.Lengths.{length_scale}

module _ {A B : Type 0} {o : Ops A} {R : CRing B} (M : Model o R) (I : Inverts M) where
  open M use {φ, φ_mul, zer?-true, zer?-false, inj}

  -- ---- the inverse depends on the residue alone
  pub inv_cong : (a b : A) → φ a ≡ φ b → o.inv a ≡ o.inv b
  inv_cong a b e = inj _ _ (I.ok_inv a) (I.ok_inv b) (go (o.zer? a) refl)
    where
      go : (t : Bool) → o.zer? a ≡ t → φ (o.inv a) ≡ φ (o.inv b)
      go true z = I.inv_zer a (zer?-true a z) ∙ sym (I.inv_zer b (sym e ∙ zer?-true a z))
      go false z = ring_from R (φ a ∷ φ b ∷ φ (o.inv a) ∷ φ (o.inv b) ∷ [])
          (plus R (plus R (times R (φ (o.inv b)) (I.inv_mul a (zer?-false a z))) (times R (R.neg (φ (o.inv a))) (I.inv_mul b (λ w. zer?-false a z (e ∙ w))))) (times R (R.neg (R.mul (φ (o.inv a)) (φ (o.inv b)))) e))
          (search quote depth 40 fits 9999) tt

  -- ---- made monic
  pub trim_monic : (a : List A) → Trim M (monic o a)
  unfolding monic
  trim_monic a = trim_scale M _ a

  pub oks_monic : (a : List A) → Oks M (monic o a)
  unfolding monic
  oks_monic a = oks_scale M _ a

  pub lead_cong : (a b : List A) → series M a ≡ series M b → φ (lead o a) ≡ φ (lead o b)
  lead_cong a b e = ap φ (lead_is M a) ∙ ap (λ (f : S R). f (length (trim o a) -ₙ 1)) e ∙ ap (λ (n : ℕ). series M b (n -ₙ 1)) (size_series M a b e) ∙ sym (ap φ (lead_is M b))

  pub monic_cong : (a b : List A) → series M a ≡ series M b → monic o a ≡ monic o b
  unfolding monic
  monic_cong a b e = scale_cong M _ _ a b (ap φ (inv_cong (lead o a) (lead o b) (lead_cong a b e))) e

  pub series_monic : (a : List A) → series M (monic o a) ≡ conv R (con R (φ (o.inv (lead o a)))) (series M a)
  unfolding monic
  series_monic a = series_scale M _ a

  -- its leading coefficient is 1
  pub monic_top : (a : List A) → 0 < length (trim o a) → series M (monic o a) (length (trim o a) -ₙ 1) ≡ R.one
  unfolding monic
  monic_top a h = ap φ (at_scale M (o.inv (lead o a)) a _) ∙ φ_mul _ _ ∙ ap (λ x. R.mul (φ (o.inv (lead o a))) (φ x)) (sym (lead_is M a)) ∙ I.inv_mul (lead o a) (lead_some M a h)

  -- it keeps size and degree
  pub length_monic : (a : List A) → length (monic o a) ≡ length (trim o a)
  unfolding monic
  length_monic a = ⊎_elim (λ h. ⊎_elim (λ k. let w : length (monic o a) ≤ length (trim o a) = short in omega arith) (λ k. absurd (lead_some M a h (no_lead h k))) (le_or_lt (length (trim o a)) (length (monic o a)))) (λ h. let w : length (monic o a) ≤ length (trim o a) = short in omega arith) (le_or_lt 1 (length (trim o a)))
    where
      short : length (scale o (o.inv (lead o a)) a) ≤ length (trim o a)
      short = length_scale M (o.inv (lead o a)) a

      no_lead : 1 ≤ length (trim o a) → length (scale o (o.inv (lead o a)) a) < length (trim o a) → φ (lead o a) ≡ R.zer
      no_lead h k = ring_from R (φ (lead o a) ∷ []) (times R (φ (lead o a)) (sym (monic_top a h) ∙ below_length M (monic o a) _ (omega arith))) (search quote depth 40 fits 9999) tt

  pub size_monic : (a : List A) → size o (monic o a) ≡ size o a
  unfolding size
  size_monic a = ap length (trim_monic a) ∙ length_monic a

  pub deg_monic : (a : List A) → deg o (monic o a) ≡ deg o a
  unfolding deg
  deg_monic a = ap (λ (n : ℕ). n -ₙ 1) (size_monic a)
