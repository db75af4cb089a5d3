-- One step from a state (Q, P): it is exact, it never reaches Q = 0, and it keeps Q reduced (of degree at
-- most g). Carried by one identity, Q' Q = r (2 d - r) + e, in which the degrees are compared.
use Rattle.std.specs.Prelude.{ℕ, suc, ◌+◌ as ◌+ₙ◌, ◌≤◌, ◌<◌, ◌≡◌, refl, ◌⊎◌, [], ◌∷◌}
use Rattle.std.proofs.Common.{arith, sym, ap, ◌∙◌, inl, inr}
use Rattle.math_ring.specs.Ring.{CRing}
use Rattle.math_ring.specs.Identity.{ring_from, times, plus, quote}
use Rattle.math_ring.specs.Identities.{step_exact, step_product}
use Rattle.math_ring.specs.Series.{Series}
use Rattle.math_algebra.specs.Field.{Field}
use Rattle.math_algebra.specs.Polynomial.{F, Px, ◌≺◌ as Low, Deg, low_up, low_zero, low_add, low_neg, low_sub, low_mul, low_path, degree, deg_mul, deg_dominant, deg_below}
use Rattle.math_algebra.specs.Division.{Division}
use Rattle.math_surd.specs.Root.{Root, NoSquare, deg_twice, d_deg}

module _ {A : Type 0} (K : Field A) where
  open Series (F K) use {add as ◌+◌, mul as ◌*◌, neg as -◌, zer as 𝟘, one as 𝟙}

  infixl 6 ◌+◌ ◌-◌
  infixl 7 ◌*◌
  infix 8 -◌
  infix 4 ◌≺◌
  abbrev P[x] : Type 0
  P[x] = Px K

  abbrev R[x] : CRing P[x]
  R[x] = Series (F K)

  abbrev ◌-◌ : P[x] → P[x] → P[x]
  a - b = a + (- b)

  abbrev ◌≺◌ : P[x] → ℕ → Type 0
  ◌≺◌ = Low K

  -- (Q, P), where Q has the degree κ and divides D - P²
  pub record State (D Q C P : P[x]) : Type 0 where
    pub κ : ℕ
    pub deg : Deg K Q κ
    pub norm : D ≡ P * P + Q * C
    pub size : ℕ
    pub C_low : C ≺ size
    pub P_low : P ≺ size

  module _ {g : ℕ} {D : P[x]} (o : Root K g D) {Q C P : P[x]} (s : State D Q C P) {n : ℕ} (q : Division K (P + o.d) Q n s.κ) where
    -- a and r are the quotient and the remainder of P + d by Q
    abbrev a : P[x]
    a = q.quo

    abbrev r : P[x]
    r = q.rem

    abbrev pub next_P : P[x]
    next_P = a * Q - P

    abbrev pub next_Q : P[x]
    next_Q = C + a * (P - next_P)

    -- D - P'² = Q Q'
    pub exact : D ≡ next_P * next_P + next_Q * Q
    exact = step_exact R[x] P Q C a s.norm refl refl ∙ ap (λ f. next_P * next_P + f) (R[x].mul_comm Q next_Q)

    pub next_P_is : next_P ≡ o.d - r
    next_P_is = ring_from R[x] (Q ∷ P ∷ a ∷ r ∷ o.d ∷ []) (times R[x] (- 𝟙) q.is) (search quote depth 40 fits 9999) tt

    pub product : next_Q * Q ≡ r * (o.d + o.d - r) + o.e
    product = R[x].mul_comm next_Q Q ∙ step_product R[x] D o.d o.e r Q next_P next_Q (step_exact R[x] P Q C a s.norm refl refl) o.is next_P_is

    pub next_P_low : next_P ≺ n +ₙ s.κ +ₙ s.size
    next_P_low = low_sub K (a * Q) P _ (low_up K (a * Q) (omega arith) (low_mul K a Q (n) s.κ q.quo_low s.deg.low)) (low_up K P (omega arith) s.P_low)

    -- Q' = 0 would make D a square
    pub next : NoSquare K D → State D next_Q Q next_P
    next no_square = go (degree K (k +ₙ n +ₙ k) next_Q Q_low)
      where
        k : ℕ
        k = n +ₙ s.κ +ₙ s.size

        Q_low : next_Q ≺ k +ₙ n +ₙ k
        Q_low = low_add K C (a * (P - next_P)) _ (low_up K C (omega arith) s.C_low) (low_up K (a * (P - next_P)) (omega arith) (low_mul K a (P - next_P) n k q.quo_low (low_sub K P next_P (suc k) (low_up K P (omega arith) s.P_low) (low_up K next_P (omega arith) next_P_low))))

        go : (next_Q ≡ 𝟘) ⊎ ((m : ℕ) × (m < k +ₙ n +ₙ k) × Deg K next_Q m) → State D next_Q Q next_P
        go (inl z) = absurd (no_square next_P k next_P_low (exact ∙ ring_from R[x] (next_P ∷ next_Q ∷ Q ∷ []) (times R[x] Q z) (search quote depth 40 fits 9999) tt))
        go (inr t) = record { κ = t.0; deg = t.2; norm = exact; size = k +ₙ suc s.κ; C_low = low_up K Q (omega arith) s.deg.low; P_low = low_up K next_P (omega arith) next_P_low }

    -- the degree of Q' where that of Q is at most g
    pub reduced : s.κ ≤ g → (κ : ℕ) → Deg K next_Q κ → (κ ≤ g) × (next_P - o.d ≺ κ)
    reduced small κ t = go (degree K s.κ r q.rem_low)
      where
        minus : - r ≡ next_P - o.d
        minus = ring_from R[x] (next_P ∷ r ∷ o.d ∷ []) (times R[x] (- 𝟙) next_P_is) (search quote depth 40 fits 9999) tt

        left : Deg K (next_Q * Q) (κ +ₙ s.κ)
        left = deg_mul K next_Q Q κ s.κ t s.deg

        go : (r ≡ 𝟘) ⊎ ((m : ℕ) × (m < s.κ) × Deg K r m) → (κ ≤ g) × (next_P - o.d ≺ κ)
        go (inl z) = (omega (arith, sum), low_path K κ (zer ∙ minus) (low_zero K κ))
          where
            zer : 𝟘 ≡ - r
            zer = ring_from R[x] (r ∷ []) (times R[x] 𝟙 z) (search quote depth 40 fits 9999) tt

            is_e : o.e ≡ next_Q * Q
            is_e = ring_from R[x] (next_Q ∷ Q ∷ r ∷ o.d ∷ o.e ∷ []) (plus R[x] (times R[x] (- 𝟙) product) (times R[x] (- (o.d + o.d - r)) z)) (search quote depth 40 fits 9999) tt

            sum : κ +ₙ s.κ < suc g
            sum = deg_below K (next_Q * Q) (κ +ₙ s.κ) (suc g) left (low_path K (suc g) is_e o.e_low)
        go (inr v) = (omega (arith, le, ge, v.1), low_path K κ minus (low_up K (- r) (omega (arith, le, ge, v.1)) (low_neg K r (suc v.0) v.2.low)))
          where
            two_d : Deg K (o.d + o.d - r) (suc g)
            two_d = deg_dominant K (o.d + o.d) (- r) (suc g) (deg_twice K o.d (suc g) (d_deg K o)) (low_neg K r (suc g) (low_up K r (omega arith) q.rem_low))

            right : Deg K (r * (o.d + o.d - r) + o.e) (v.0 +ₙ suc g)
            right = deg_dominant K (r * (o.d + o.d - r)) o.e (v.0 +ₙ suc g) (deg_mul K r (o.d + o.d - r) v.0 (suc g) v.2 two_d) (low_up K o.e (omega arith) o.e_low)

            le : κ +ₙ s.κ < suc (v.0 +ₙ suc g)
            le = deg_below K (next_Q * Q) (κ +ₙ s.κ) (suc (v.0 +ₙ suc g)) left (low_path K (suc (v.0 +ₙ suc g)) (sym product) right.low)

            ge : v.0 +ₙ suc g < suc (κ +ₙ s.κ)
            ge = deg_below K (r * (o.d + o.d - r) + o.e) (v.0 +ₙ suc g) (suc (κ +ₙ s.κ)) right (low_path K (suc (κ +ₙ s.κ)) product left.low)
