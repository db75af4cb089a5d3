-- The list of one coefficient, and that of 1: its polynomial, that it is trimmed where the coefficient is not 0,
-- and that the coefficient stands for itself.
use Prim.Native.Nat.{ℕ, zero, suc}
use Rattle.std.specs.Prelude.{◌≡◌, Bool, true, false, [], ◌∷◌}
use Rattle.std.proofs.Math.Path.{refl, ap, fun_ext}
use Rattle.std.proofs.Common.{sym, ◌∙◌}
use Rattle.math_ring.specs.Series.{con}
use Rattle.math_algebra.specs.Field.{Field}
use Rattle.math_algebra.specs.Polynomial.{F}
use Rattle.spec_arithmetic.specs.Field.{Ops}
use Rattle.spec_arithmetic.specs.Polynomials.{keep, trim}
use Rattle.spec_bridge.specs.Model.{Model, Oks, series}
use Rattle.spec_bridge.specs.Trim.{Trim}

module _ {A B : Type 0} {o : Ops A} (K : Field B) (M : Model o (F K)) where
  pub series_con : (c : A) → series M (c ∷ []) ≡ con (F K) (M.φ c)
  unfolding con
  series_con c = fun_ext here
    where
      here : (n : ℕ) → series M (c ∷ []) n ≡ con (F K) (M.φ c) n
      here zero = refl
      here (suc n) = M.φ_zer

  con_some : (c : A) → (M.φ c ≡ (F K).zer → ⊥) → o.zer? c ≡ false
  con_some c some = go (o.zer? c) refl
    where
      go : (b : Bool) → o.zer? c ≡ b → o.zer? c ≡ false
      go true e = absurd (some (M.zer?-true c e))
      go false e = e

  pub trim_con : (c : A) → (M.φ c ≡ (F K).zer → ⊥) → Trim M (c ∷ [])
  unfolding trim
  trim_con c some = ap (λ (b : Bool). keep o b c) (con_some c some)

  pub oks_con : (c : A) → M.Ok c → Oks M (c ∷ [])
  oks_con c k zero = k
  oks_con c k (suc i) = M.ok_zer

  -- ---- 1
  pub series_one : series M (o.one ∷ []) ≡ con (F K) (F K).one
  series_one = series_con o.one ∙ ap (con (F K)) M.φ_one

  pub trim_one : Trim M (o.one ∷ [])
  trim_one = trim_con o.one (λ e. K.one_not_zero (sym M.φ_one ∙ e))

  pub oks_one : Oks M (o.one ∷ [])
  oks_one = oks_con o.one M.ok_one
