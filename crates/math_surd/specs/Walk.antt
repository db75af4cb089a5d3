-- The continued fraction of √D as an endless walk of states (Q i, P i) with partial quotients a i and
-- remainders r i: its equations, the cheap recurrence, the degrees of P i and a i, and its states.
use Prim.Native.Nat.{ℕ, zero, suc, ◌+◌ as ◌+ₙ◌, ◌-◌ as ◌-ₙ◌, ◌≤◌, ◌<◌}
use Rattle.std.proofs.Common.{arith, ◌∙◌}
use Rattle.std.specs.Prelude.{◌≡◌, [], ◌∷◌}
use Rattle.std.proofs.Math.Path.{sym}
use Rattle.math_ring.specs.Ring.{CRing}
use Rattle.math_ring.specs.Identity.{ring, ring_from, times, plus, quote}
use Rattle.math_ring.specs.Series.{Series}
use Rattle.math_algebra.specs.Field.{Field}
use Rattle.math_algebra.specs.Polynomial.{F, Px, ◌≺◌ as Low, Deg, Monic, low_up, low_neg, low_zero, low_none, low_path, deg_path, deg_dominant, deg_below, deg_factor, monic_dominant, monic_path, one_low}
use Rattle.math_surd.specs.Root.{Root, deg_twice, d_deg, D_low}
use Rattle.math_surd.specs.Step.{State}

module _ {A : Type 0} (K : Field A) where
  open Series (F K) use {add as ◌+◌, mul as ◌*◌, neg as -◌, zer as 𝟘, one as 𝟙}

  infixl 6 ◌+◌ ◌-◌
  infixl 7 ◌*◌
  infix 8 -◌
  infix 4 ◌≺◌
  abbrev P[x] : Type 0
  P[x] = Px K

  abbrev R[x] : CRing P[x]
  R[x] = Series (F K)

  abbrev ◌-◌ : P[x] → P[x] → P[x]
  a - b = a + (- b)

  abbrev ◌≺◌ : P[x] → ℕ → Type 0
  ◌≺◌ = Low K

  -- the Q before: D before the first
  abbrev pub prior : P[x] → (ℕ → P[x]) → ℕ → P[x]
  prior D Q zero = D
  prior D Q (suc i) = Q i

  -- κ i is the degree of Q i, and size i bounds the degree of a i
  pub record Walk {g : ℕ} {D : P[x]} (o : Root K g D) : Type 0 where
    pub Q : ℕ → P[x]
    pub P : ℕ → P[x]
    pub a : ℕ → P[x]
    pub r : ℕ → P[x]
    pub κ : ℕ → ℕ
    pub size : ℕ → ℕ
    pub Q_first : Q 0 ≡ 𝟙
    pub P_first : P 0 ≡ 𝟘
    pub divide : (i : ℕ) → P i + o.d ≡ a i * Q i + r i
    pub P_step : (i : ℕ) → P (suc i) ≡ a i * Q i - P i
    pub Q_step : (i : ℕ) → Q (suc i) ≡ prior D Q i + a i * (P i - P (suc i))
    pub Q_deg : (i : ℕ) → Deg K (Q i) (κ i)
    pub reduced : (i : ℕ) → κ i ≤ g
    pub r_low : (i : ℕ) → r i ≺ κ i
    pub a_low : (i : ℕ) → a i ≺ size i
    pub near : (i : ℕ) → P (suc i) - o.d ≺ κ (suc i)

  module _ {g : ℕ} {D : P[x]} {o : Root K g D} (w : Walk o) where
    open w use {Q, P, a, r, κ, size, Q_first, P_first, divide, P_step, Q_step, Q_deg, reduced, r_low, a_low, near}

    -- D - P² is the product of Q and the Q before
    pub norm : (i : ℕ) → D ≡ P i * P i + Q i * prior D Q i
    norm zero = rw (Q_first, P_first) (ring R[x] (D ∷ []) (search quote depth 40 fits 9999) tt)
    norm (suc i) = norm i ∙ (rw (Q_step i, P_step i) (ring R[x] (P i ∷ prior D Q i ∷ Q i ∷ a i ∷ []) (search quote depth 40 fits 9999) tt))

    -- ---- with the remainders in place of P
    pub P_rem : (i : ℕ) → P (suc i) ≡ o.d - r i
    P_rem i = ring_from R[x] (P i ∷ P (suc i) ∷ a i ∷ Q i ∷ o.d ∷ r i ∷ []) (plus R[x] (times R[x] 𝟙 (P_step i)) (times R[x] (- 𝟙) (divide i))) (search quote depth 40 fits 9999) tt

    -- ---- the first states
    pub κ_first : κ 0 ≡ 0
    κ_first = let h : κ 0 < 1 = deg_below K 𝟙 (κ 0) 1 (deg_path K (κ 0) Q_first (Q_deg 0)) (one_low K) in omega arith

    pub r_first : r 0 ≡ 𝟘
    r_first = low_none K (r 0) (low_up K (r 0) (omega (arith, κ_first)) (r_low 0))

    pub a_first : a 0 ≡ o.d
    a_first = ring_from R[x] (a 0 ∷ o.d ∷ P 0 ∷ Q 0 ∷ r 0 ∷ []) (plus R[x] (times R[x] (- 𝟙) (divide 0)) (plus R[x] (times R[x] 𝟙 P_first) (plus R[x] (times R[x] (- a 0) Q_first) (times R[x] (- 𝟙) r_first)))) (search quote depth 40 fits 9999) tt

    -- ---- P i is monic of degree g + 1, and near to d
    pub near_prior : (i : ℕ) → P (suc i) - o.d ≺ κ i
    near_prior i = low_path K (κ i) same (low_neg K (r i) (κ i) (r_low i))
      where
        same : - r i ≡ P (suc i) - o.d
        same = ring_from R[x] (P (suc i) ∷ o.d ∷ r i ∷ []) (times R[x] (- 𝟙) (P_rem i)) (search quote depth 40 fits 9999) tt

    pub P_monic : (i : ℕ) → Monic K (P (suc i)) (suc g)
    P_monic i = monic_path K (suc g) same (monic_dominant K o.d (P (suc i) - o.d) (suc g) o.monic (low_up K _ (omega (arith, reduced i)) (near_prior i)))
      where
        same : o.d + (P (suc i) - o.d) ≡ P (suc i)
        same = ring R[x] (P (suc i) ∷ o.d ∷ []) (search quote depth 40 fits 9999) tt

    pub P_low : (i : ℕ) → P i ≺ suc (suc g)
    P_low zero = low_path K _ (sym P_first) (low_zero K _)
    P_low (suc i) = (P_monic i).low

    -- ---- its states
    prior_low : (i : ℕ) → prior D Q i ≺ suc (suc g +ₙ suc g)
    prior_low zero = D_low K o
    prior_low (suc i) = low_up K (Q i) (let l = reduced i in omega arith) (Q_deg i).low

    pub walk_state : (i : ℕ) → State K D (Q i) (prior D Q i) (P i)
    walk_state i = record { κ = κ i; deg = Q_deg i; norm = norm i; size = suc (suc g +ₙ suc g); C_low = prior_low i; P_low = low_up K (P i) (omega arith) (P_low i) }

    -- ---- a i Q i has the degree g + 1
    pub sum_deg : (i : ℕ) → Deg K (P i + o.d) (suc g)
    sum_deg zero = deg_path K (suc g) same (d_deg K o)
      where
        same : o.d ≡ P 0 + o.d
        same = ring_from R[x] (P 0 ∷ o.d ∷ []) (times R[x] (- 𝟙) P_first) (search quote depth 40 fits 9999) tt
    sum_deg (suc i) = deg_path K (suc g) same (deg_dominant K (o.d + o.d) (P (suc i) - o.d) (suc g) (deg_twice K o.d (suc g) (d_deg K o)) (low_up K (P (suc i) - o.d) (omega (arith, reduced i)) (near_prior i)))
      where
        same : (o.d + o.d) + (P (suc i) - o.d) ≡ P (suc i) + o.d
        same = ring R[x] (P (suc i) ∷ o.d ∷ []) (search quote depth 40 fits 9999) tt

    pub a_q_deg : (i : ℕ) → Deg K (a i * Q i) (suc g)
    a_q_deg i = deg_path K (suc g) same (deg_dominant K (P i + o.d) (- r i) (suc g) (sum_deg i) (low_neg K (r i) (suc g) (low_up K (r i) (omega (arith, reduced i)) (r_low i))))
      where
        same : (P i + o.d) + (- r i) ≡ a i * Q i
        same = ring_from R[x] (P i ∷ o.d ∷ r i ∷ a i ∷ Q i ∷ []) (times R[x] 𝟙 (divide i)) (search quote depth 40 fits 9999) tt

    pub a_deg : (i : ℕ) → Deg K (a i) (suc g -ₙ κ i)
    a_deg i = (deg_factor K (size i) (a i) (Q i) (suc g) (κ i) (a_low i) (Q_deg i) (a_q_deg i)).1
