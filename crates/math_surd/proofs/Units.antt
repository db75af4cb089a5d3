-- The proofs of specs/Units.
use Rattle.std.specs.Prelude.{ℕ, suc, ◌+◌ as ◌+ₙ◌, ◌<◌, ◌≡◌, ◌⊎◌, [], ◌∷◌}
use Rattle.std.proofs.Common.{arith, sym, ap, ◌∙◌, subst, inl, inr, ⊎_elim}
use Rattle.math_ring.specs.Ring.{CRing}
use Rattle.math_ring.specs.Identity.{ring, ring_from, times, quote}
use Rattle.math_ring.specs.Series.{Series, con}
use Rattle.math_algebra.specs.Field.{Field}
use Rattle.math_algebra.specs.Polynomial.{F, Px, ◌≺◌ as Low, Deg, low_up, low_one, low_path, deg_path, deg_mul, deg_below, deg_scale}
use Rattle.math_surd.specs.Root.{Root}
use Rattle.math_surd.specs.Walk.{Walk}
use Rattle.math_surd.specs.Convergents.{sign}
use Rattle.math_surd.proofs.Convergents.{sign_deg, norm_convergent}
use Rattle.math_surd.specs.Convergents as convergents
use Rattle.math_surd.specs.Distance.{distance}
use Rattle.math_surd.proofs.Distance.{p_deg}
use Rattle.math_surd.specs.Descent.{Multiple}
use Rattle.math_surd.proofs.Descent.{descent, multiple_norm}
use Rattle.math_surd.specs.Units as defs

module _ {A : Type 0} (K : Field A) where
  open Series (F K) use {add as ◌+◌, mul as ◌*◌, neg as -◌, one as 𝟙}

  infixl 6 ◌+◌ ◌-◌
  infixl 7 ◌*◌
  infix 8 -◌
  infix 4 ◌≺◌
  abbrev P[x] : Type 0
  P[x] = Px K

  abbrev R[x] : CRing P[x]
  R[x] = Series (F K)

  abbrev ◌-◌ : P[x] → P[x] → P[x]
  a - b = a + (- b)

  abbrev ◌≺◌ : P[x] → ℕ → Type 0
  ◌≺◌ = Low K

  module _ {g : ℕ} {D : P[x]} {o : Root K g D} (w : Walk K o) where
    open w use {Q, κ, Q_deg}

    abbrev p : ℕ → P[x]
    p = convergents.p K w

    abbrev s : ℕ → P[x]
    s = convergents.s K w

    abbrev Scaled : (m : ℕ) → (X Y : P[x]) → Type 0
    Scaled = defs.Scaled K w

    pub scaled_deg : (m : ℕ) {X Y : P[x]} → Scaled m X Y → Deg K X (distance K w m)
    scaled_deg m h = deg_path K _ (sym h.X_is) (deg_scale K h.by (p (suc m)) (distance K w m) h.by_not_zero (p_deg K w m))

    abbrev Unit : (X Y : P[x]) → Type 0
    Unit = defs.Unit K w

    -- the norm of a convergent has the degree of Q
    pub norm_deg : (m : ℕ) → Deg K (p (suc m) * p (suc m) - D * (s (suc m) * s (suc m))) (κ m)
    norm_deg m = deg_path K (κ m) (sym (norm_convergent K w m)) (sign_deg K m (Q m) (κ m) (Q_deg m))

    -- Z is Y or - Y
    of_multiple : (X Y Z : P[x]) → Deg K (X * X - D * (Y * Y)) 0 → (h : Multiple K w X Y) → ((b : P[x]) → Y ≡ b → (Z ≡ b) ⊎ (Z ≡ - b)) → Unit X Z
    of_multiple X Y Z t h back = record {
      m = i;
      positive = omega arith;
      constant = omega (arith, sum);
      scaled = record { by = h.by 0; by_not_zero = by_deg.top; X_is = h.x_is ∙ ap (λ b. b * p (suc i)) by_is; Y_is = back (con (F K) (h.by 0) * s (suc i)) (h.y_is ∙ ap (λ b. b * s (suc i)) by_is) };
    }
      where
        i : ℕ
        i = suc h.at

        full : Deg K (sign K i * (h.by * h.by * Q i)) (h.size +ₙ h.size +ₙ κ i)
        full = sign_deg K i _ _ (deg_mul K (h.by * h.by) (Q i) (h.size +ₙ h.size) (κ i) (deg_mul K h.by h.by h.size h.size h.by_deg h.by_deg) (Q_deg i))

        sum : h.size +ₙ h.size +ₙ κ i < 1
        sum = deg_below K _ _ 1 full (low_path K 1 (multiple_norm K w h) t.low)

        by_deg : Deg K h.by 0
        by_deg = subst (Deg K h.by) (let e : h.size ≡ 0 = omega (arith, sum) in e) h.by_deg

        by_is : h.by ≡ con (F K) (h.by 0)
        by_is = low_one K h.by by_deg.low

    pub units : (n v : ℕ) (X Y : P[x]) → X ≺ n → Deg K Y v → Deg K (X * X - D * (Y * Y)) 0 → Unit X Y
    units n v X Y X_low Y-deg t = ⊎_elim (λ h. of_multiple X Y Y t h (λ b e. inl e)) (λ h. of_multiple X (- Y) Y (deg_path K 0 same t) h (λ b e. inr (back b e))) (descent K w n X Y v X_low Y-deg (low_up K _ (omega arith) t.low))
      where
        same : X * X - D * (Y * Y) ≡ X * X - D * ((- Y) * (- Y))
        same = ring R[x] (X ∷ Y ∷ D ∷ []) (search quote depth 40 fits 9999) tt

        back : (b : P[x]) → - Y ≡ b → Y ≡ - b
        back b e = ring_from R[x] (Y ∷ b ∷ []) (times R[x] (- 𝟙) e) (search quote depth 40 fits 9999) tt
