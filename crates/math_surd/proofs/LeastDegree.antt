-- The proofs of specs/LeastDegree.
use Rattle.std.specs.Prelude.{ℕ, zero, suc, ◌+◌ as ◌+ₙ◌, ◌≤◌, ◌<◌}
use Rattle.std.proofs.Common.{arith, sym, subst, ⊎_elim}
use Rattle.math_ring.specs.Series.{Series}
use Rattle.math_ring.specs.Order.{le_or_lt}
use Rattle.math_algebra.specs.Field.{Field}
use Rattle.math_algebra.specs.Polynomial.{F, Px, ◌≺◌ as Low, Deg, low_up, low_one, deg_path, degree, deg_con, deg_not_zero, deg_unique}
use Rattle.math_surd.specs.Root.{Root}
use Rattle.math_surd.specs.Walk.{Walk}
use Rattle.math_surd.specs.Convergents as convergents
use Rattle.math_surd.specs.Distance.{distance, height, s_deg}
use Rattle.math_surd.proofs.Distance.{p_deg, distance_rise, distance_mono, distance_injective}
use Rattle.math_surd.specs.QuasiPeriod.{QuasiPeriod, NoneConstant}
use Rattle.math_surd.proofs.QuasiPeriod.{quasi_period_or_none}
use Rattle.math_surd.specs.Units.{Scaled, Unit}
use Rattle.math_surd.proofs.Units.{units, norm_deg, scaled_deg}
use Rattle.math_surd.specs.LeastDegree as defs

module _ {A : Type 0} (K : Field A) where
  open Series (F K) use {add as ◌+◌, mul as ◌*◌, neg as -◌, zer as 𝟘}

  infixl 6 ◌+◌ ◌-◌
  infixl 7 ◌*◌
  infix 8 -◌
  infix 4 ◌≺◌
  abbrev P[x] : Type 0
  P[x] = Px K

  abbrev ◌-◌ : P[x] → P[x] → P[x]
  a - b = a + (- b)

  abbrev ◌≺◌ : P[x] → ℕ → Type 0
  ◌≺◌ = Low K

  abbrev Solution : (D X Y : P[x]) → Type 0
  Solution = defs.Solution K

  module _ {g : ℕ} {D : P[x]} {o : Root K g D} (w : Walk K o) where
    abbrev p : ℕ → P[x]
    p = convergents.p K w

    abbrev s : ℕ → P[x]
    s = convergents.s K w

    unit : {X Y : P[x]} → Solution D X Y → Unit K w X Y
    unit {X} {Y} u = ⊎_elim (λ z. absurd (u.Y_not_zero z)) (λ t. units K w u.size t.0 X Y u.X_low t.2 (deg_path K 0 (sym u.norm) (deg_con K u.c u.c_not_zero))) (degree K u.size Y u.Y_low)

    -- ---- no Q up to the index b is constant
    pub spent : (b : ℕ) → NoneConstant K w b → {X Y : P[x]} → Solution D X Y → (n : ℕ) × Deg K X n × (distance K w b < n)
    spent b none {X} {Y} u = go (unit u)
      where
        go : Unit K w X Y → (n : ℕ) × Deg K X n × (distance K w b < n)
        go t = (distance K w t.m, scaled_deg K w t.m t.scaled, distance_rise K w b t.m (⊎_elim (λ h. absurd (none t.m t.positive h t.constant)) (λ h. h) (le_or_lt t.m b)))

    -- ---- a solution gives a quasi-period
    pub solved : {X Y : P[x]} → Solution D X Y → (m : ℕ) × QuasiPeriod K w m
    solved {X} {Y} u = go (unit u)
      where
        go : Unit K w X Y → (m : ℕ) × QuasiPeriod K w m
        go t = ⊎_elim (λ r. (r.0, r.2)) (λ none. absurd (none t.m t.positive (omega arith) t.constant)) (quasi_period_or_none K w t.m)

    -- ---- m is the quasi-period
    module _ (m : ℕ) (first : QuasiPeriod K w m) where
      pub found : {X Y : P[x]} → Solution D X Y → (n : ℕ) × Deg K X n × (distance K w m ≤ n)
      found {X} {Y} u = go (unit u)
        where
          go : Unit K w X Y → (n : ℕ) × Deg K X n × (distance K w m ≤ n)
          go t = (distance K w t.m, scaled_deg K w t.m t.scaled, (let h = distance_mono K w m t.m later in omega arith))
            where
              later : m ≤ t.m
              later = ⊎_elim (λ h. h) (λ h. absurd (first.least t.m t.positive h t.constant)) (le_or_lt m t.m)

      pub reached_deg : Deg K (p (suc m)) (distance K w m)
      reached_deg = p_deg K w m

      pub only : {X Y : P[x]} → Solution D X Y → Deg K X (distance K w m) → Scaled K w m X Y
      only {X} {Y} u h = go (unit u)
        where
          go : Unit K w X Y → Scaled K w m X Y
          go t = subst (λ (n : ℕ). Scaled K w n X Y) (distance_injective K w t.m m (deg_unique K (scaled_deg K w t.m t.scaled) h)) t.scaled

    pub reached : (m : ℕ) → QuasiPeriod K w m → Solution D (p (suc m)) (s (suc m))
    reached zero first = absurd (omega arith)
    reached (suc i) first = record {
      size = suc (distance K w (suc i) +ₙ height K w i);
      X_low = low_up K (p (suc (suc i))) (omega arith) (p_deg K w (suc i)).low;
      Y_low = low_up K (s (suc (suc i))) (omega arith) (s_deg K w i).low;
      Y_not_zero = deg_not_zero K (s_deg K w i);
      c = norm 0;
      c_not_zero = constant.top;
      norm = low_one K norm constant.low;
    }
      where
        norm : P[x]
        norm = p (suc (suc i)) * p (suc (suc i)) - D * (s (suc (suc i)) * s (suc (suc i)))

        constant : Deg K norm 0
        constant = subst (Deg K norm) first.constant (norm_deg K w (suc i))
