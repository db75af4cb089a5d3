-- The proofs of specs/Descent.
use Rattle.std.specs.Prelude.{ℕ, zero, suc, max, ◌+◌ as ◌+ₙ◌, ◌-◌ as ◌-ₙ◌, ◌<◌, ◌≡◌, ◌⊎◌, [], ◌∷◌}
use Rattle.std.proofs.Common.{arith, sym, ap₂, ◌∙◌, inl, inr, ⊎_elim}
use Rattle.math_ring.specs.Ring.{CRing}
use Rattle.math_ring.specs.Identity.{ring, ring_from, times, quote}
use Rattle.math_ring.specs.Identities.{norm_factors, descent_left, descent_right}
use Rattle.math_ring.specs.Series.{Series}
use Rattle.math_ring.specs.Order.{le_or_lt}
use Rattle.math_algebra.specs.Field.{Field}
use Rattle.math_algebra.specs.Polynomial.{F, Px, ◌≺◌ as Low, Deg, low_up, low_add, low_neg, low_sub, low_mul, low_none, low_path, deg_path, degree, deg_mul, low_quotient, deg_dominant, deg_neg, deg_below}
use Rattle.math_surd.specs.Root.{Root, deg_twice, d_deg}
use Rattle.math_surd.specs.Big.{Big}
use Rattle.math_surd.proofs.Big.{dichotomy}
use Rattle.math_surd.specs.Walk.{Walk, prior, norm, a_first}
use Rattle.math_surd.specs.Convergents.{sign}
use Rattle.math_surd.proofs.Convergents.{sign_low, sign_swap, norm_combination, norm_convergent}
use Rattle.math_surd.specs.Convergents as convergents
use Rattle.math_surd.specs.Descent as defs

module _ {A : Type 0} (K : Field A) where
  open Series (F K) use {add as ◌+◌, mul as ◌*◌, neg as -◌, zer as 𝟘}

  infixl 6 ◌+◌ ◌-◌
  infixl 7 ◌*◌
  infix 8 -◌
  infix 4 ◌≺◌
  abbrev P[x] : Type 0
  P[x] = Px K

  abbrev R[x] : CRing P[x]
  R[x] = Series (F K)

  abbrev ◌-◌ : P[x] → P[x] → P[x]
  a - b = a + (- b)

  abbrev ◌≺◌ : P[x] → ℕ → Type 0
  ◌≺◌ = Low K

  module _ {g : ℕ} {D : P[x]} {o : Root K g D} (w : Walk K o) where
    open w use {Q, P, a, r, κ, size, divide, Q_deg, r_low, a_low, near}

    abbrev p : ℕ → P[x]
    p = convergents.p K w

    abbrev s : ℕ → P[x]
    s = convergents.s K w

    abbrev N : ℕ → P[x] → P[x] → P[x]
    N = convergents.N K w

    -- ---- one step: the remainder u - a v has a smaller degree than v
    pub descend : (j : ℕ) (u v : P[x]) (m n : ℕ) → Deg K u m → Deg K v n → n < m → N (suc j) u v ≺ suc g → u - a (suc j) * v ≺ n
    descend j u v m n hu hv less h =
        low_quotient K (m +ₙ size i +ₙ suc (suc n)) (u - a i * v) (Q i) n κi (Q_deg i) rem_low (low_path K (n +ₙ κi) rem_Q (low_add K y₋ (r i * v) (n +ₙ κi) (low_up K y₋ (omega arith) y₋-low) (low_up K (r i * v) (omega arith) (low_mul K (r i) v κi n (r_low i) hv.low))))
      where
        i : ℕ
        i = suc j

        κi : ℕ
        κi = κ i

        d : P[x]
        d = o.d

        M : ℕ
        M = max κi (n +ₙ n)

        y₋ : P[x]
        y₋ = Q i * u - P i * v - d * v

        y₊ : P[x]
        y₊ = Q i * u - P i * v + d * v

        rem_low : u - a i * v ≺ m +ₙ size i +ₙ suc (suc n)
        rem_low = low_sub K u (a i * v) _ (low_up K u (omega arith) hu.low) (low_up K (a i * v) (omega arith) (low_mul K (a i) v (size i) n (a_low i) hv.low))

        rem_Q : y₋ + r i * v ≡ (u - a i * v) * Q i
        rem_Q = sym (R[x].mul_comm (u - a i * v) (Q i) ∙ descent_left R[x] (P i) (Q i) (a i) d (r i) u v (divide i))

        y₊-deg : Deg K y₊ (κi +ₙ m)
        y₊-deg = deg_path K (κi +ₙ m) (sym (descent_right R[x] (P i) (Q i) d u v)) (deg_dominant K (Q i * u) (- ((P i - d) * v)) (κi +ₙ m) (deg_mul K (Q i) u κi m (Q_deg i) hu) (low_neg K ((P i - d) * v) (κi +ₙ m) (low_up K ((P i - d) * v) (omega arith) (low_mul K (P i - d) v κi n (near j) hv.low))))

        product : y₋ * y₊ ≡ Q i * N i u v + o.e * (v * v)
        product = norm_factors R[x] (P i) (Q i) (prior K D Q i) d o.e u v (norm K w i) o.is

        product_low : y₋ * y₊ ≺ suc g +ₙ M
        product_low = low_path K (suc g +ₙ M) (sym product) (low_add K _ _ (suc g +ₙ M) (low_up K _ (omega arith) (low_mul K (Q i) (N i u v) (suc κi) g (Q_deg i).low h)) (low_up K _ (omega arith) (low_mul K o.e (v * v) (suc g) (n +ₙ n) o.e_low (deg_mul K v v n n hv hv).low)))

        twice_deg : Deg K (d * v + d * v) (suc g +ₙ n)
        twice_deg = deg_twice K (d * v) (suc g +ₙ n) (deg_mul K d v (suc g) n (d_deg K o) hv)

        y₋-is : y₊ - (d * v + d * v) ≡ y₋
        y₋-is = ring R[x] (Q i ∷ u ∷ v ∷ P i ∷ d ∷ []) (search quote depth 40 fits 9999) tt

        y₋-bound : y₋ ≺ suc (κi +ₙ m) +ₙ suc (suc g +ₙ n)
        y₋-bound = low_path K _ y₋-is (low_sub K y₊ (d * v + d * v) _ (low_up K y₊ (omega arith) y₊-deg.low) (low_up K (d * v + d * v) (omega arith) twice_deg.low))

        l : ℕ
        l = suc g +ₙ M -ₙ (κi +ₙ m)

        y₋-l : y₋ ≺ l
        y₋-l = low_quotient K _ y₋ y₊ l (κi +ₙ m) y₊-deg y₋-bound (λ k q. product_low k (omega arith))

        minus_deg : Deg K (- (d * v + d * v)) (suc g +ₙ n)
        minus_deg = deg_neg K (d * v + d * v) (suc g +ₙ n) twice_deg

        -- the leading terms of y₊ and 2 d v cancel, else y₋ would have too large a degree
        over : suc g +ₙ n < κi +ₙ m → ⊥
        over q = let t : κi +ₙ m < l = deg_below K y₋ (κi +ₙ m) l (deg_path K (κi +ₙ m) y₋-is (deg_dominant K y₊ (- (d * v + d * v)) (κi +ₙ m) y₊-deg (low_up K _ q minus_deg.low))) y₋-l in omega arith

        under : κi +ₙ m < suc g +ₙ n → ⊥
        under q = let t : suc g +ₙ n < l = deg_below K y₋ (suc g +ₙ n) l (deg_path K (suc g +ₙ n) (ring R[x] (Q i ∷ u ∷ v ∷ P i ∷ d ∷ []) (search quote depth 40 fits 9999) tt) (deg_dominant K (- (d * v + d * v)) y₊ (suc g +ₙ n) minus_deg (low_up K _ q y₊-deg.low))) y₋-l in omega arith

        meet : κi +ₙ m ≡ suc g +ₙ n
        meet = ⊎_elim (λ x. ⊎_elim (λ y. (omega arith)) (λ y. absurd (over y)) (le_or_lt (κi +ₙ m) (suc g +ₙ n))) (λ x. absurd (under x)) (le_or_lt (suc g +ₙ n) (κi +ₙ m))

        y₋-low : y₋ ≺ n +ₙ κi
        y₋-low = low_up K y₋ (let t = meet in omega arith) y₋-l

    abbrev Multiple : (x y : P[x]) → Type 0
    Multiple = defs.Multiple K w

    module _ (x y : P[x]) (low : x * x - D * (y * y) ≺ suc g) where
      norm_low : (i : ℕ) (u v : P[x]) → x ≡ u * p (suc i) + v * p i → y ≡ u * s (suc i) + v * s i → N i u v ≺ suc g
      norm_low i u v ex ey = low_path K (suc g) (sign_swap K i (x * x - D * (y * y)) (N i u v) (ap₂ (λ f h. f * f - D * (h * h)) ex ey ∙ norm_combination K w i u v)) (sign_low K i (x * x - D * (y * y)) (suc g) low)

      stop : (j : ℕ) (u v : P[x]) (m : ℕ) → Deg K u m → v ≡ 𝟘 → x ≡ u * p (suc (suc j)) + v * p (suc j) → y ≡ u * s (suc (suc j)) + v * s (suc j) → Multiple x y
      stop j u v m hu z ex ey = record { at = j; by = u; size = m; by_deg = hu; x_is = ex ∙ off (p (suc (suc j))) (p (suc j)); y_is = ey ∙ off (s (suc (suc j))) (s (suc j)) }
        where
          off : (f h : P[x]) → u * f + v * h ≡ u * f
          off f h = ring_from R[x] (u ∷ v ∷ f ∷ h ∷ []) (times R[x] h z) (search quote depth 40 fits 9999) tt

      -- by recursion on the bound n of v
      loop : (n j : ℕ) (u v : P[x]) (m : ℕ) → Deg K u m → v ≺ n → v ≺ m → x ≡ u * p (suc (suc j)) + v * p (suc j) → y ≡ u * s (suc (suc j)) + v * s (suc j) → Multiple x y
      loop zero j u v m hu hn hv ex ey = stop j u v m hu (low_none K v hn) ex ey
      loop (suc n) j u v m hu hn hv ex ey = go (degree K (suc n) v hn) (loop n (suc j))
        where
          go : (v ≡ 𝟘) ⊎ ((k : ℕ) × (k < suc n) × Deg K v k) → ((u' v' : P[x]) (m' : ℕ) → Deg K u' m' → v' ≺ n → v' ≺ m' → x ≡ u' * p (suc (suc (suc j))) + v' * p (suc (suc j)) → y ≡ u' * s (suc (suc (suc j))) + v' * s (suc (suc j)) → Multiple x y) → Multiple x y
          go (inl z) next = stop j u v m hu z ex ey
          go (inr t) next = next v (u - a (suc j) * v) t.0 t.2 (low_up K (u - a (suc j) * v) (let q = t.1 in omega arith) less) less (ex ∙ on (p (suc (suc j))) (p (suc j))) (ey ∙ on (s (suc (suc j))) (s (suc j)))
            where
              less : u - a (suc j) * v ≺ t.0
              less = descend j u v m t.0 hu t.2 (deg_below K v t.0 m t.2 hv) (norm_low (suc j) u v ex ey)

              on : (f h : P[x]) → u * f + v * h ≡ v * (a (suc j) * f + h) + (u - a (suc j) * v) * f
              on f h = ring R[x] (u ∷ v ∷ f ∷ h ∷ a (suc j) ∷ []) (search quote depth 40 fits 9999) tt

      pub descent_big : Big K o x y → Multiple x y
      descent_big b = loop b.height 0 y (x - o.d * y) b.height b.y_deg b.near b.near first_x first_y
        where
          first_x : x ≡ y * p 2 + (x - o.d * y) * p 1
          first_x = ring_from R[x] (x ∷ y ∷ o.d ∷ a 0 ∷ []) (times R[x] (- y) (a_first K w)) (search quote depth 40 fits 9999) tt

          first_y : y ≡ y * s 2 + (x - o.d * y) * s 1
          first_y = ring R[x] (x ∷ y ∷ o.d ∷ a 0 ∷ []) (search quote depth 40 fits 9999) tt

    -- ---- the main theorem
    pub descent : (n : ℕ) (x y : P[x]) (v : ℕ) → x ≺ n → Deg K y v → x * x - D * (y * y) ≺ suc g → Multiple x y ⊎ Multiple x (- y)
    descent n x y v hx hy low = ⊎_elim (λ b. inl (descent_big x y low b)) (λ b. inr (descent_big x (- y) (low_path K (suc g) same low) b)) (dichotomy K o n x y v hx hy low)
      where
        same : x * x - D * (y * y) ≡ x * x - D * ((- y) * (- y))
        same = ring R[x] (x ∷ y ∷ D ∷ []) (search quote depth 40 fits 9999) tt

    module _ {x y : P[x]} (h : Multiple x y) where
      -- λ² Q is the norm, up to the sign
      pub multiple_norm : x * x - D * (y * y) ≡ sign K (suc h.at) * (h.by * h.by * Q (suc h.at))
      multiple_norm =
          ap₂ (λ f k. f * f - D * (k * k)) h.x_is h.y_is
          ∙ ring_from R[x] (h.by ∷ p (suc (suc h.at)) ∷ s (suc (suc h.at)) ∷ D ∷ sign K (suc h.at) ∷ Q (suc h.at) ∷ []) (times R[x] (h.by * h.by) (norm_convergent K w (suc h.at))) (search quote depth 40 fits 9999) tt
