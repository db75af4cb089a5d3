-- A pair with Q made monic and P modulo it (`ideal_of`) has the same ideal; and two pairs of the same ideal have
-- the same lists, so made. So a record of a listing stands for its ideal.
use Rattle.std.specs.Prelude.{ℕ, ◌≡◌}
use Rattle.std.proofs.Common.{sym, subst}
use Rattle.std.proofs.Math.Path.{ap₂}
use mathlib.Core.List.{List}
use Rattle.math_algebra.specs.Field.{Field}
use Rattle.math_algebra.specs.Polynomial.{F, Px, low_sub, ◌≺◌ as Low, deg_path, deg_unique, monic_deg}
use Rattle.math_algebra.specs.Divides.{rigid}
use Rattle.math_algebra.specs.Associate.{associate_monic_equal, divides_associate}
use Rattle.math_surd.specs.Step.{State}
use Rattle.math_surd.specs.Ideal.{SameIdeal}
use Rattle.math_surd.proofs.Ideal.{same_sym, same_trans}
use Rattle.spec_arithmetic.specs.Field.{Ops}
use Rattle.spec_definitions.specs.Walk.{Ideal}
use Rattle.spec_definitions.specs.Listing.{ideal_of}
use Rattle.spec_bridge.specs.Model.{Model, Inverts, series}
use Rattle.spec_bridge.specs.Trim.{series_ext}
use Rattle.spec_bridge.specs.Division.{trim_rem, oks_rem}
use Rattle.spec_bridge.specs.Monic.{trim_monic, oks_monic}
use Rattle.spec_laws.specs.Pairs.{IsIdeal}
use Rattle.spec_laws.specs.Reduced.{reduced_ratio, reduced_gap, reduced_ideal}

module _ {A B : Type 0} {o : Ops A} (K : Field B) (M : Model o (F K)) where
  -- two pairs of lists have the same ideal
  abbrev pub SameLists : Ideal A → Ideal A → Type 0
  SameLists x y = SameIdeal K (series M x.q) (series M x.p) (series M y.q) (series M y.p)

  -- pairs that are ideals as refusal 9 wants them are equal where their ideals are
  pub ideal_series_equal : {D : List A} {x y : Ideal A} (hx : IsIdeal K M D x) (hy : IsIdeal K M D y) → SameLists x y → (series M x.q ≡ series M y.q) × (series M x.p ≡ series M y.p)
  ideal_series_equal {D} {x} {y} hx hy s = (Q_is, rigid K hy.κ (monic_deg K hy.monic) s.congruent (low_sub K (series M x.p) (series M y.p) hy.κ (subst (λ (n : ℕ). Low K (series M x.p) n) degree hx.low) hy.low))
    where
      Q_is : series M x.q ≡ series M y.q
      Q_is = associate_monic_equal K hx.monic hy.monic s.ratio

      degree : hx.κ ≡ hy.κ
      degree = deg_unique K (monic_deg K hx.monic) (deg_path K hy.κ (sym Q_is) (monic_deg K hy.monic))

module _ {B : Type 0} {o : Ops ℕ} (K : Field B) (M : Model o (F K)) (I : Inverts M) (D : List ℕ) where
  -- x is an ideal over the field
  module _ (x : Ideal ℕ) {C : Px K} (st : State K (series M D) (series M x.q) C (series M x.p)) where
    pub normal_ideal : IsIdeal K M D (ideal_of o x)
    unfolding ideal_of
    normal_ideal = reduced_ideal K M I D x st

    pub normal_same : SameLists K M (ideal_of o x) x
    unfolding ideal_of
    normal_same = record { ratio = reduced_ratio K M I D x st; congruent = divides_associate K (reduced_ratio K M I D x st) (reduced_gap K M I D x st) }

  pub normal_equal : (x y : Ideal ℕ) {C C' : Px K} → State K (series M D) (series M x.q) C (series M x.p) → State K (series M D) (series M y.q) C' (series M y.p) → SameLists K M x y → ideal_of o x ≡ ideal_of o y
  unfolding ideal_of
  normal_equal x y st st' s =
      ap₂ (λ (q p : List ℕ). record { q = q; p = p })
      (series_ext M _ _ (trim_monic M I x.q) (trim_monic M I y.q) (oks_monic M I x.q) (oks_monic M I y.q) e.0)
      (series_ext M _ _ (trim_rem M _ _) (trim_rem M _ _) (oks_rem M _ _) (oks_rem M _ _) e.1)
    where
      e : (series M (ideal_of o x).q ≡ series M (ideal_of o y).q) × (series M (ideal_of o x).p ≡ series M (ideal_of o y).p)
      e = ideal_series_equal K M (normal_ideal x st) (normal_ideal y st') (same_trans K (normal_same x st) (same_trans K s (same_sym K (normal_same y st'))))
