-- The proofs of specs/Within.
use Rattle.std.specs.Prelude.{ℕ, ◌+◌ as ◌+ₙ◌, ◌-◌ as ◌-ₙ◌, ◌≤◌, ◌<◌, ◌≡◌}
use Rattle.std.proofs.Common.{arith, subst, inl, inr, ⊎_elim}
use Rattle.math_ring.specs.Order.{le_or_lt}
use Rattle.math_algebra.specs.Field.{Field}
use Rattle.math_algebra.specs.Polynomial.{Px}
use Rattle.math_surd.specs.Root.{Root}
use Rattle.math_surd.specs.Walk.{Walk}
use Rattle.math_surd.specs.Distance.{distance}
use Rattle.math_surd.proofs.Distance.{distance_mono, distance_rise}
use Rattle.math_surd.specs.QuasiPeriod.{QuasiPeriod}
use Rattle.math_surd.specs.Ideal.{SameIdeal}
use Rattle.math_surd.proofs.Ideal.{same_sym, same_trans}
use Rattle.math_surd.specs.Same.{Same}
use Rattle.math_symmetry.proofs.Period.{same_period, distance_period}
use Rattle.math_symmetry.proofs.Distinct.{distinct}
use Rattle.math_giants.specs.GiantStep.{GiantStep, giant_Q, giant_P}
use Rattle.math_giants.specs.Lands.{Landed}
use Rattle.math_giants.proofs.Lands.{lands}
use Rattle.math_giants.specs.Within as defs

module _ {A : Type 0} (K : Field A) {g : ℕ} {D : Px K} {o : Root K g D} (w : Walk K o) (m : ℕ) where
  abbrev WithinPeriod : {Q₁ P₁ Q₂ P₂ : Px K} → (G : GiantStep K o Q₁ P₁ Q₂ P₂) → (δ₁ δ₂ : ℕ) → Type 0
  WithinPeriod = defs.WithinPeriod K w m

  abbrev Within : Px K → Px K → Px K → Px K → Type 0
  Within = defs.Within K w m

  -- ---- the proof
  pub within : QuasiPeriod K w m → {Q₁ P₁ Q₂ P₂ : Px K} → Within Q₁ P₁ Q₂ P₂
  within first G i j hi hj h₁ h₂ = go (lands K w G i j h₁ h₂)
    where
      one : (n : ℕ) → n < m → SameIdeal K (giant_Q K G) (giant_P K G) (w.Q n) (w.P n) → (l : ℕ) → l < m → SameIdeal K (giant_Q K G) (giant_P K G) (w.Q l) (w.P l) → l ≡ n
      one n h s l k t = (distinct K w m first).one_each l n k h (same_trans K (same_sym K t) s)

      go : Landed K w G (distance K w i) (distance K w j) → WithinPeriod G (distance K w i) (distance K w j)
      go l = ⊎_elim past before (le_or_lt m l.at)
        where
          before : l.at < m → WithinPeriod G (distance K w i) (distance K w j)
          before h = record { at = l.at; below = h; same = l.same; only = one l.at h l.same; distance_is = inl l.distance_is }

          past : m ≤ l.at → WithinPeriod G (distance K w i) (distance K w j)
          past h = record { at = n; below = below; same = same; only = one n below same; distance_is = inr (let e = raised in let e' = l.distance_is in omega arith) }
            where
              n : ℕ
              n = l.at -ₙ m

              at_is : n +ₙ m ≡ l.at
              at_is = omega arith

              same : SameIdeal K (giant_Q K G) (giant_P K G) (w.Q n) (w.P n)
              same = same_trans K l.same (subst (λ (k : ℕ). Same K w k n) at_is (same_period K w m first.constant n))

              raised : distance K w l.at ≡ distance K w m +ₙ distance K w n
              raised = subst (λ (k : ℕ). distance K w k ≡ distance K w m +ₙ distance K w n) at_is (distance_period K w m first.constant n)

              below : n < m
              below = ⊎_elim (λ k. absurd (let a = distance_rise K w i m hi in let b = distance_rise K w j m hj in let c = distance_mono K w m n k in let e = raised in let e' = l.distance_is in omega arith)) (λ k. k) (le_or_lt m n)
