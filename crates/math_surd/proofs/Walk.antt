-- The proofs of specs/Walk.
use Prim.Native.Nat.{ℕ, suc, ◌+◌ as ◌+ₙ◌, ◌-◌ as ◌-ₙ◌}
use Rattle.std.proofs.Common.{arith, ◌∙◌}
use Rattle.std.specs.Prelude.{◌≡◌, [], ◌∷◌}
use Rattle.std.proofs.Math.Path.{sym, ap, ap₂}
use Rattle.math_ring.specs.Ring.{CRing}
use Rattle.math_ring.specs.Identity.{ring_from, times, plus, quote}
use Rattle.math_ring.specs.Series.{Series, add_s}
use Rattle.math_ring.specs.Degree.{lead_conv}
use Rattle.math_algebra.specs.Field.{Field}
use Rattle.math_algebra.specs.Polynomial.{F, Px, ◌≺◌ as Low, Deg, Monic}
use Rattle.math_surd.specs.Root.{Root}
use Rattle.math_surd.specs.Walk as defs

module _ {A : Type 0} (K : Field A) where
  open Series (F K) use {add as ◌+◌, mul as ◌*◌, neg as -◌, zer as 𝟘, one as 𝟙}

  infixl 6 ◌+◌ ◌-◌
  infixl 7 ◌*◌
  infix 8 -◌
  infix 4 ◌≺◌
  abbrev P[x] : Type 0
  P[x] = Px K

  abbrev R[x] : CRing P[x]
  R[x] = Series (F K)

  abbrev ◌-◌ : P[x] → P[x] → P[x]
  a - b = a + (- b)

  abbrev ◌≺◌ : P[x] → ℕ → Type 0
  ◌≺◌ = Low K

  abbrev prior : P[x] → (ℕ → P[x]) → ℕ → P[x]
  prior = defs.prior K

  abbrev Walk : {g : ℕ} → {D : P[x]} → (o : Root K g D) → Type 0
  Walk = defs.Walk K

  module _ {g : ℕ} {D : P[x]} {o : Root K g D} (w : Walk o) where
    open w use {Q, P, a, r, κ, size, Q_first, P_first, divide, P_step, Q_step, Q_deg, reduced, r_low, a_low, near}

    abbrev norm : (i : ℕ) → D ≡ P i * P i + Q i * prior D Q i
    norm = defs.norm K w

    pub P_sum : (i : ℕ) → P i + P (suc i) ≡ a i * Q i
    P_sum i = ring_from R[x] (P i ∷ P (suc i) ∷ a i ∷ Q i ∷ []) (times R[x] 𝟙 (P_step i)) (search quote depth 40 fits 9999) tt

    abbrev P_rem : (i : ℕ) → P (suc i) ≡ o.d - r i
    P_rem = defs.P_rem K w

    pub Q_rem : (i : ℕ) → Q (suc (suc i)) ≡ Q i + a (suc i) * (r (suc i) - r i)
    Q_rem i = Q_step (suc i) ∙ ring_from R[x] (Q i ∷ a (suc i) ∷ P (suc i) ∷ P (suc (suc i)) ∷ r (suc i) ∷ r i ∷ o.d ∷ []) (plus R[x] (times R[x] (a (suc i)) (P_rem i)) (times R[x] (- a (suc i)) (P_rem (suc i)))) (search quote depth 40 fits 9999) tt

    abbrev κ_first : κ 0 ≡ 0
    κ_first = defs.κ_first K w

    abbrev r_first : r 0 ≡ 𝟘
    r_first = defs.r_first K w

    pub P_one : P 1 ≡ o.d
    P_one = ring_from R[x] (P 1 ∷ o.d ∷ r 0 ∷ []) (plus R[x] (times R[x] 𝟙 (P_rem 0)) (times R[x] (- 𝟙) r_first)) (search quote depth 40 fits 9999) tt

    pub Q_one : Q 1 ≡ o.e
    Q_one = ring_from R[x] (Q 1 ∷ o.e ∷ D ∷ P 1 ∷ Q 0 ∷ o.d ∷ []) (plus R[x] (times R[x] (- 𝟙) (norm 1)) (plus R[x] (times R[x] 𝟙 o.is) (plus R[x] (times R[x] (- Q 1) Q_first) (times R[x] (- (P 1 + o.d)) P_one)))) (search quote depth 40 fits 9999) tt

    abbrev near_prior : (i : ℕ) → P (suc i) - o.d ≺ κ i
    near_prior = defs.near_prior K w

    abbrev P_monic : (i : ℕ) → Monic K (P (suc i)) (suc g)
    P_monic = defs.P_monic K w

    abbrev sum_deg : (i : ℕ) → Deg K (P i + o.d) (suc g)
    sum_deg = defs.sum_deg K w

    abbrev a_q_deg : (i : ℕ) → Deg K (a i * Q i) (suc g)
    a_q_deg = defs.a_q_deg K w

    abbrev a_deg : (i : ℕ) → Deg K (a i) (suc g -ₙ κ i)
    a_deg = defs.a_deg K w

    -- the leading coefficients of a i and Q i multiply to 2, past the first
    pub a_top : (i : ℕ) → (F K).mul (a (suc i) (suc g -ₙ κ (suc i))) (Q (suc i) (κ (suc i))) ≡ (F K).add (F K).one (F K).one
    unfolding add_s
    a_top i =
        sym (lead_conv (F K) (suc g -ₙ κ (suc i)) (κ (suc i)) (a (suc i)) (Q (suc i)) (a_deg (suc i)).low (Q_deg (suc i)).low)
        ∙ ap (a (suc i) * Q (suc i)) at
        ∙ ap (λ (f : P[x]). f (suc g)) (sym (P_sum (suc i)))
        ∙ ap₂ (F K).add (P_monic i).top (P_monic (suc i)).top
      where
        at : (suc g -ₙ κ (suc i)) +ₙ κ (suc i) ≡ suc g
        at = omega (arith, reduced (suc i))
