-- The proofs of specs/Convergents.
use Rattle.std.specs.Prelude.{ℕ, zero, suc, ◌≡◌, [], ◌∷◌}
use Rattle.std.proofs.Common.{ap, ap₂, ◌∙◌}
use Rattle.math_ring.specs.Ring.{CRing}
use Rattle.math_ring.specs.Identity.{ring, ring_from, times, plus, quote}
use Rattle.math_ring.specs.Identities.{norm_turn as turn}
use Rattle.math_ring.specs.Series.{Series}
use Rattle.math_algebra.specs.Field.{Field}
use Rattle.math_algebra.specs.Polynomial.{F, Px, ◌≺◌ as Low, Deg, low_neg, low_path, deg_path, deg_neg, monic_deg, monic_one}
use Rattle.math_surd.specs.Root.{Root}
use Rattle.math_surd.specs.Walk.{Walk, prior}
use Rattle.math_surd.specs.Convergents as defs

module _ {A : Type 0} (K : Field A) where
  open Series (F K) use {add as ◌+◌, mul as ◌*◌, neg as -◌, zer as 𝟘, one as 𝟙}

  infixl 6 ◌+◌ ◌-◌
  infixl 7 ◌*◌
  infix 8 -◌
  infix 4 ◌≺◌
  abbrev P[x] : Type 0
  P[x] = Px K

  abbrev R[x] : CRing P[x]
  R[x] = Series (F K)

  abbrev ◌-◌ : P[x] → P[x] → P[x]
  a - b = a + (- b)

  abbrev ◌≺◌ : P[x] → ℕ → Type 0
  ◌≺◌ = Low K

  abbrev sign : ℕ → P[x]
  sign = defs.sign K

  pub sign_square : (i : ℕ) → sign i * sign i ≡ 𝟙
  sign_square zero = ring R[x] [] (search quote depth 40 fits 9999) tt
  sign_square (suc i) = same ∙ sign_square i
    where
      same : (- sign i) * (- sign i) ≡ sign i * sign i
      same = ring R[x] (sign i ∷ []) (search quote depth 40 fits 9999) tt

  -- a sign goes over to the other side
  pub sign_swap : (i : ℕ) (f h : P[x]) → f ≡ sign i * h → sign i * f ≡ h
  sign_swap i f h e = ring_from R[x] (sign i ∷ f ∷ h ∷ []) (plus R[x] (times R[x] (sign i) e) (times R[x] h (sign_square i))) (search quote depth 40 fits 9999) tt

  sign_one : (f : P[x]) → f ≡ 𝟙 * f
  sign_one f = ring R[x] (f ∷ []) (search quote depth 40 fits 9999) tt

  sign_neg : (i : ℕ) (f : P[x]) → - (sign i * f) ≡ (- sign i) * f
  sign_neg i f = ring R[x] (sign i ∷ f ∷ []) (search quote depth 40 fits 9999) tt

  pub sign_low : (i : ℕ) (f : P[x]) (n : ℕ) → f ≺ n → sign i * f ≺ n
  sign_low zero f n h = low_path K n (sign_one f) h
  sign_low (suc i) f n h = low_path K n (sign_neg i f) (low_neg K (sign i * f) n (sign_low i f n h))

  pub sign_deg : (i : ℕ) (f : P[x]) (n : ℕ) → Deg K f n → Deg K (sign i * f) n
  sign_deg zero f n h = deg_path K n (sign_one f) h
  sign_deg (suc i) f n h = deg_path K n (sign_neg i f) (deg_neg K (sign i * f) n (sign_deg i f n h))

  pub sign_constant : (i : ℕ) → Deg K (sign i) 0
  sign_constant zero = monic_deg K (monic_one K)
  sign_constant (suc i) = deg_neg K (sign i) 0 (sign_constant i)

  module _ {g : ℕ} {D : P[x]} {o : Root K g D} (w : Walk K o) where
    open w use {Q, P, a, Q_first, P_first, P_step, Q_step}

    abbrev p : ℕ → P[x]
    p = defs.p K w

    abbrev s : ℕ → P[x]
    s = defs.s K w

    abbrev N : ℕ → P[x] → P[x] → P[x]
    N = defs.N K w

    pub norm_turn : (i : ℕ) (u v : P[x]) → N i (a i * u + v) u ≡ - N (suc i) u v
    norm_turn i u v = turn R[x] (P i) (Q i) (prior K D Q i) (a i) u v (P_step i) (Q_step i)

    pub norm_combination : (i : ℕ) (u v : P[x])
        → (u * p (suc i) + v * p i) * (u * p (suc i) + v * p i) - D * ((u * s (suc i) + v * s i) * (u * s (suc i) + v * s i)) ≡ sign i * N i u v
    norm_combination zero u v = rw (Q_first, P_first) (ring R[x] (D ∷ u ∷ v ∷ []) (search quote depth 40 fits 9999) tt)
    norm_combination (suc i) u v =
        ring R[x] (D ∷ u ∷ v ∷ a i ∷ p (suc i) ∷ p i ∷ s (suc i) ∷ s i ∷ []) (search quote depth 40 fits 9999) tt
        ∙ norm_combination i (a i * u + v) u
        ∙ ap (λ t. sign i * t) (norm_turn i u v)
        ∙ ring R[x] (sign i ∷ N (suc i) u v ∷ []) (search quote depth 40 fits 9999) tt

    -- p² - D s² = (-1)^i Q i at the convergent of index i - 1
    pub norm_convergent : (i : ℕ) → p (suc i) * p (suc i) - D * (s (suc i) * s (suc i)) ≡ sign i * Q i
    norm_convergent i =
        ring R[x] (D ∷ p (suc i) ∷ p i ∷ s (suc i) ∷ s i ∷ []) (search quote depth 40 fits 9999) tt
        ∙ norm_combination i 𝟙 𝟘
        ∙ ring R[x] (sign i ∷ Q i ∷ prior K D Q i ∷ P i ∷ []) (search quote depth 40 fits 9999) tt

    abbrev Linear : (i : ℕ) → Type 0
    Linear = defs.Linear K w

    linear_step : (i : ℕ) → Linear i → Linear (suc i)
    linear_step i h = record {
      now = ap₂ (λ x y. a i * x + y) h.now h.back ∙ rw (Q_step i, P_step i) (ring R[x] (a i ∷ s (suc i) ∷ s i ∷ P i ∷ Q i ∷ prior K D Q i ∷ []) (search quote depth 40 fits 9999) tt);
      back = h.now ∙ rw (P_step i) (ring R[x] (a i ∷ s (suc i) ∷ s i ∷ P i ∷ Q i ∷ []) (search quote depth 40 fits 9999) tt);
    }

    pub linear : (i : ℕ) → Linear i
    linear zero = record { now = rw (Q_first, P_first) (ring R[x] [] (search quote depth 40 fits 9999) tt); back = rw P_first (ring R[x] (D ∷ []) (search quote depth 40 fits 9999) tt) }
    linear (suc i) = linear_step i (linear i)

    pub determinant : (i : ℕ) → p (suc i) * s i - s (suc i) * p i ≡ sign i
    determinant zero = ring R[x] [] (search quote depth 40 fits 9999) tt
    determinant (suc i) = ring R[x] (a i ∷ p (suc i) ∷ p i ∷ s (suc i) ∷ s i ∷ []) (search quote depth 40 fits 9999) tt ∙ ap (λ t. - t) (determinant i)
