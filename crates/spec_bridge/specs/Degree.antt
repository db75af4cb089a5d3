-- The degree of a list is that of its polynomial: over a field, the size is one more than the degree and the
-- leading coefficient is not 0.
use Rattle.std.specs.Prelude.{ℕ, suc, ◌-◌ as ◌-ₙ◌, ◌≤◌, ◌<◌, ◌≡◌, List, [], length}
use Rattle.std.proofs.Common.{arith, sym, ◌∙◌}
use Rattle.std.proofs.Math.Path.{refl, ap}
use Rattle.math_ring.specs.Series.{zer_s}
use Rattle.math_algebra.specs.Field.{Field}
use Rattle.math_algebra.specs.Polynomial.{F, Px, Deg, Monic, deg_below, monic_deg}
use Rattle.spec_arithmetic.specs.Field.{Ops}
use Rattle.spec_arithmetic.specs.Polynomials.{at, trim, size, deg}
use Rattle.spec_bridge.specs.Model.{Model, series, series_nil}
use Rattle.spec_bridge.specs.Trim.{trim_nil, trim_none, below_size, size_le, series_trim, lead_some, lead_is}

module _ {A B : Type 0} {o : Ops A} (K : Field B) (M : Model o K.scalars) where
  open M use {φ}

  pub deg_is : (l : List A) → deg o l ≡ length (trim o l) -ₙ 1
  unfolding deg size
  deg_is l = refl

  -- ---- the polynomial of a list has the list's degree
  pub series_deg : (l : List A) → 0 < length (trim o l) → Deg K (series M l) (length (trim o l) -ₙ 1)
  series_deg l h = record { low = λ i p. below_size M l i (omega arith); top = λ e. lead_some M l h (ap φ (lead_is M l) ∙ e) }

  pub deg_size : (l : List A) {n : ℕ} → Deg K (series M l) n → length (trim o l) ≡ suc n
  deg_size l {n} t =
      let h : length (trim o l) ≤ suc n = size_le M l (suc n) t.low in
      let k : n < length (trim o l) = deg_below K (series M l) n (length (trim o l)) t (below_size M l) in
      omega arith

  -- ---- the zero polynomial
  pub series_zero : (l : List A) → length (trim o l) ≡ 0 → series M l ≡ zer_s (F K)
  series_zero l h = sym (series_trim M l) ∙ ap (series M) (trim_nil M l h) ∙ series_nil M

  pub zero_size : (l : List A) → series M l ≡ zer_s (F K) → trim o l ≡ []
  unfolding zer_s
  zero_size l e = trim_none M l (λ i p. ap (λ (f : Px K). f i) e)

  -- ---- monic polynomials
  pub series_monic_of : (l : List A) (n : ℕ) → length (trim o l) ≤ suc n → φ (at o l n) ≡ (F K).one → Monic K (series M l) n
  series_monic_of l n h e = record { low = λ i p. below_size M l i (omega arith); top = e }

  pub monic_size : (l : List A) {n : ℕ} → Monic K (series M l) n → length (trim o l) ≡ suc n
  monic_size l m = deg_size l (monic_deg K m)
  -- ---- degrees add up in a product
