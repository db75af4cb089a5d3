-- The proofs of specs/QuasiPeriod.
use Rattle.std.specs.Prelude.{ℕ, zero, suc, ◌≤◌, ◌<◌, ◌≡◌, ◌⊎◌}
use Rattle.std.proofs.Common.{arith, ap, inl, inr, ⊎_elim}
use Rattle.math_ring.specs.Order.{le_or_lt}
use Rattle.math_algebra.specs.Field.{Field}
use Rattle.math_algebra.specs.Polynomial.{Px}
use Rattle.math_surd.specs.Root.{Root}
use Rattle.math_surd.specs.Walk.{Walk}
use Rattle.math_surd.specs.QuasiPeriod as defs

module _ {A : Type 0} (K : Field A) {g : ℕ} {D : Px K} {o : Root K g D} (w : Walk K o) where
  open w use {κ}

  abbrev NoneConstant : ℕ → Type 0
  NoneConstant = defs.NoneConstant K w

  abbrev QuasiPeriod : (m : ℕ) → Type 0
  QuasiPeriod = defs.QuasiPeriod K w

  -- the first of the indices up to b, or none
  pub quasi_period_or_none : (b : ℕ) → ((m : ℕ) × (m ≤ b) × QuasiPeriod m) ⊎ NoneConstant b
  quasi_period_or_none zero = inr (λ j p q e. absurd (omega arith))
  quasi_period_or_none (suc b) = ⊎_elim (λ r. inl (r.0, omega (arith, r.1), r.2)) (λ none. ⊎_elim (λ h. inr (further none h)) (λ h. inl (suc b, omega arith, here none h)) (le_or_lt 1 (κ (suc b)))) (quasi_period_or_none b)
    where
      here : NoneConstant b → κ (suc b) < 1 → QuasiPeriod (suc b)
      here none h = record { positive = omega arith; constant = omega arith; least = λ j p q e. none j p (omega arith) e }

      further : NoneConstant b → 1 ≤ κ (suc b) → NoneConstant (suc b)
      further none h j p q e = ⊎_elim (λ l. none j p l e) (λ l. let k : κ (suc b) ≡ κ j = ap κ (omega arith) in omega arith) (le_or_lt j b)
