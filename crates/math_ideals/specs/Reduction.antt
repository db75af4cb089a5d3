-- One step from an ideal (Q, P) of any degree to the next, (Q', P'): Q' ≠ 0, P' + d has a larger degree than
-- Q', and the degree of Q falls while it is above g. Carried by one identity, Q' Q = (d - P')(P' + d) + e, in
-- which the degrees are compared.
use Rattle.std.specs.Prelude.{ℕ, suc, ◌+◌ as ◌+ₙ◌, ◌-◌ as ◌-ₙ◌, ◌≤◌, ◌<◌, ◌≡◌, ◌⊎◌, [], ◌∷◌}
use Rattle.std.proofs.Common.{arith, ◌∙◌, inl, inr, ⊎_elim}
use Rattle.math_ring.specs.Ring.{CRing}
use Rattle.math_ring.specs.Identity.{ring, ring_from, times, plus, quote}
use Rattle.math_ring.specs.Order.{le_or_lt}
use Rattle.math_ring.specs.Series.{Series}
use Rattle.math_algebra.specs.Field.{Field}
use Rattle.math_algebra.specs.Polynomial.{F, Px, ◌≺◌ as Low, Deg, low_up, low_neg, low_sub, low_mul, low_path, degree, deg_path, deg_mul, deg_neg, deg_dominant, deg_below, deg_factor, deg_unique, deg_not_zero}
use Rattle.math_surd.specs.Root.{Root, NoSquare, deg_twice, d_deg}
use Rattle.math_surd.specs.Step.{State}
use Rattle.math_surd.specs.Ideal.{Follows}
use Rattle.math_algebra.specs.Finite.{Finite, finite_sub, finite_add, finite_monic}

module _ {A : Type 0} (K : Field A) where
  open Series (F K) use {add as ◌+◌, mul as ◌*◌, neg as -◌, zer as 𝟘, one as 𝟙}

  infixl 6 ◌+◌ ◌-◌
  infixl 7 ◌*◌
  infix 8 -◌
  infix 4 ◌≺◌
  abbrev P[x] : Type 0
  P[x] = Px K

  abbrev R[x] : CRing P[x]
  R[x] = Series (F K)

  abbrev ◌-◌ : P[x] → P[x] → P[x]
  a - b = a + (- b)

  abbrev ◌≺◌ : P[x] → ℕ → Type 0
  ◌≺◌ = Low K

  module _ {g : ℕ} {D : P[x]} {o : Root K g D} {Q P Q' P' : P[x]} (s : Follows K o Q P Q' P') where
    open s use {κ, deg, near, norm, low}

    abbrev d : P[x]
    d = o.d

    -- the remainder of P + d by Q
    abbrev r : P[x]
    r = d - P'

    pub r_low : r ≺ κ
    r_low = low_path K κ turn (low_neg K (P' - d) κ near)
      where
        turn : - (P' - d) ≡ r
        turn = ring R[x] (P' ∷ d ∷ []) (search quote depth 40 fits 9999) tt

    pub next_P_finite : Finite K P'
    next_P_finite = let f = finite_sub K (finite_monic K o.monic) (record { size = κ; low = r_low }) in record { size = f.size; low = low_path K f.size same f.low }
      where
        same : d - (d - P') ≡ P'
        same = ring R[x] (P' ∷ d ∷ []) (search quote depth 40 fits 9999) tt

    -- ---- Q' = 0 would make D a square
    pub next_state : NoSquare K D → State K D Q' Q P'
    next_state no_square = go (degree K s.size Q' low)
      where
        f : Finite K P'
        f = next_P_finite

        go : (Q' ≡ 𝟘) ⊎ ((m : ℕ) × (m < s.size) × Deg K Q' m) → State K D Q' Q P'
        go (inl z) = absurd (no_square P' f.size f.low (norm ∙ ring_from R[x] (P' ∷ Q' ∷ Q ∷ []) (times R[x] Q z) (search quote depth 40 fits 9999) tt))
        go (inr t) = record { κ = t.0; deg = t.2; norm = norm; size = suc κ +ₙ f.size; C_low = low_up K Q (omega arith) deg.low; P_low = low_up K P' (omega arith) f.low }

    pub product : Q' * Q ≡ r * (P' + d) + o.e
    product = ring_from R[x] (D ∷ Q ∷ Q' ∷ P' ∷ d ∷ o.e ∷ []) (plus R[x] (times R[x] (- 𝟙) norm) (times R[x] 𝟙 o.is)) (search quote depth 40 fits 9999) tt

    pub two_d : d + d - r ≡ P' + d
    two_d = ring R[x] (P' ∷ d ∷ []) (search quote depth 40 fits 9999) tt

    -- ---- the degrees, κ' that of Q'
    module _ {κ' : ℕ} (t : Deg K Q' κ') where
      pub left : Deg K (Q' * Q) (κ' +ₙ κ)
      left = deg_mul K Q' Q κ' κ t deg

      -- what is left of the product has its degree, where e is small
      rest : g < κ' +ₙ κ → Deg K (r * (P' + d)) (κ' +ₙ κ)
      rest h = deg_path K _ same (deg_dominant K (Q' * Q) (- o.e) (κ' +ₙ κ) left (low_neg K o.e _ (low_up K o.e h o.e_low)))
        where
          same : Q' * Q + (- o.e) ≡ r * (P' + d)
          same = ring_from R[x] (Q ∷ Q' ∷ P' ∷ d ∷ o.e ∷ []) (times R[x] 𝟙 product) (search quote depth 40 fits 9999) tt

      -- P' + d has a larger degree than Q'
      pub sum_deg : (h : ℕ) × (κ' < h) × Deg K (P' + d) h
      sum_deg = ⊎_elim large small (le_or_lt (suc g) (κ' +ₙ κ))
        where
          small : κ' +ₙ κ < suc g → (h : ℕ) × (κ' < h) × Deg K (P' + d) h
          small l = (suc g, omega arith, deg_path K (suc g) two_d (deg_dominant K (d + d) (- r) (suc g) (deg_twice K d (suc g) (d_deg K o)) (low_neg K r (suc g) (low_up K r (omega arith) r_low))))

          large : suc g ≤ κ' +ₙ κ → (h : ℕ) × (κ' < h) × Deg K (P' + d) h
          large l = ⊎_elim none some (degree K f.size (P' + d) f.low)
            where
              f : Finite K (P' + d)
              f = finite_add K next_P_finite (finite_monic K o.monic)

              none : P' + d ≡ 𝟘 → (h : ℕ) × (κ' < h) × Deg K (P' + d) h
              none z = absurd (deg_not_zero K (rest l) (ring_from R[x] (P' ∷ d ∷ []) (times R[x] r z) (search quote depth 40 fits 9999) tt))

              some : (h : ℕ) × (h < f.size) × Deg K (P' + d) h → (h : ℕ) × (κ' < h) × Deg K (P' + d) h
              some v = ⊎_elim (λ k. (v.0, k, v.2)) (λ k. absurd (let m = deg_below K (r * (P' + d)) _ (κ +ₙ κ') (rest l) (low_mul K r (P' + d) κ κ' r_low (low_up K (P' + d) k v.2.low)) in omega arith)) (le_or_lt (suc κ') v.0)

      -- where the degree of Q is above g: the remainder is not 0, and with ρ its degree, deg (P' + d) - deg
      -- Q' = deg Q - ρ
      pub remainder_deg : g < κ → {h : ℕ} → Deg K (P' + d) h → (ρ : ℕ) × (ρ +ₙ h ≡ κ' +ₙ κ) × (ρ < κ) × Deg K (d - P') ρ
      remainder_deg big {h} u = (ρ, omega (arith, f.0), deg_below K r ρ κ f.1 r_low, f.1)
        where
          ρ : ℕ
          ρ = (κ' +ₙ κ) -ₙ h

          f : (h ≤ κ' +ₙ κ) × Deg K r ρ
          f = deg_factor K κ r (P' + d) (κ' +ₙ κ) h r_low u (rest (omega arith))

      -- a remainder of degree above g + 1 has the degree of P' + d, and one of at most that degree bounds it
      pub sum_far : {ρ h : ℕ} → suc g < ρ → Deg K (d - P') ρ → Deg K (P' + d) h → h ≡ ρ
      sum_far {ρ} l v u = deg_unique K u (deg_path K ρ turn (deg_dominant K (- r) (d + d) ρ (deg_neg K r ρ v) (low_up K (d + d) l (deg_twice K d (suc g) (d_deg K o)).low)))
        where
          turn : - r + (d + d) ≡ P' + d
          turn = ring R[x] (P' ∷ d ∷ []) (search quote depth 40 fits 9999) tt

      pub sum_close : {ρ h : ℕ} → ρ ≤ suc g → Deg K (d - P') ρ → Deg K (P' + d) h → h ≤ suc g
      sum_close {ρ} {h} l v u = let m = deg_below K (P' + d) h (suc (suc g)) u (low_path K _ two_d (low_sub K (d + d) r _ (deg_twice K d (suc g) (d_deg K o)).low (low_up K r (omega arith) v.low))) in omega arith

      -- so the degree of P' + d is at most that of Q, and Q' is reduced or its degree is smaller by 2 or more
      pub fall : g < κ → {h : ℕ} → κ' < h → Deg K (P' + d) h → (h ≤ κ) × ((κ' ≤ g) ⊎ (κ' +ₙ 2 ≤ κ))
      fall big less u = let v = remainder_deg big u in ⊎_elim (λ l. let e = sum_far l v.3 u in (omega arith, inr (omega arith))) (λ l. let e = sum_close (omega arith) v.3 u in (omega arith, inl (omega arith))) (le_or_lt (suc (suc g)) v.0)
