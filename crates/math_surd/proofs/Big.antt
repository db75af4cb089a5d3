-- The proofs of specs/Big.
use Rattle.std.specs.Prelude.{ℕ, suc, ◌+◌ as ◌+ₙ◌, ◌<◌, ◌≡◌, ◌⊎◌, [], ◌∷◌}
use Rattle.std.proofs.Common.{arith, sym, inl, inr, ⊎_elim}
use Rattle.math_ring.specs.Ring.{CRing}
use Rattle.math_ring.specs.Identity.{ring, ring_from, times, quote}
use Rattle.math_ring.specs.Series.{Series}
use Rattle.math_ring.specs.Order.{le_or_lt}
use Rattle.math_algebra.specs.Field.{Field}
use Rattle.math_algebra.specs.Polynomial.{F, Px, ◌≺◌ as Low, Deg, low_up, low_zero, low_add, low_sub, low_mul, low_path, deg_path, degree, deg_mul, low_quotient, deg_dominant, deg_neg}
use Rattle.math_surd.specs.Root.{Root, deg_twice, d_deg}
use Rattle.math_surd.specs.Big as defs

module _ {A : Type 0} (K : Field A) where
  open Series (F K) use {add as ◌+◌, mul as ◌*◌, neg as -◌, zer as 𝟘}

  infixl 6 ◌+◌ ◌-◌
  infixl 7 ◌*◌
  infix 8 -◌
  infix 4 ◌≺◌
  abbrev P[x] : Type 0
  P[x] = Px K

  abbrev R[x] : CRing P[x]
  R[x] = Series (F K)

  abbrev ◌-◌ : P[x] → P[x] → P[x]
  a - b = a + (- b)

  abbrev ◌≺◌ : P[x] → ℕ → Type 0
  ◌≺◌ = Low K

  module _ {g : ℕ} {D : P[x]} (o : Root K g D) where
    abbrev Big : (x y : P[x]) → Type 0
    Big = defs.Big K o

    dy_deg : (y : P[x]) (v : ℕ) → Deg K y v → Deg K (o.d * y) (suc g +ₙ v)
    dy_deg y v h = deg_mul K o.d y (suc g) v (d_deg K o) h

    pub big_deg : (x y : P[x]) (b : Big x y) → Deg K x (suc g +ₙ b.height)
    big_deg x y b = deg_path K _ same (deg_dominant K (o.d * y) (x - o.d * y) _ (dy_deg y b.height b.y_deg) (low_up K _ (omega arith) b.near))
      where
        same : o.d * y + (x - o.d * y) ≡ x
        same = ring R[x] (x ∷ y ∷ o.d ∷ []) (search quote depth 40 fits 9999) tt

    -- x + d y has the degree of x
    pub big_sum_deg : (x y : P[x]) (b : Big x y) → Deg K (x + o.d * y) (suc g +ₙ b.height)
    big_sum_deg x y b = deg_path K _ same (deg_dominant K (o.d * y + o.d * y) (x - o.d * y) _ (deg_twice K (o.d * y) _ (dy_deg y b.height b.y_deg)) (low_up K _ (omega arith) b.near))
      where
        same : (o.d * y + o.d * y) + (x - o.d * y) ≡ x + o.d * y
        same = ring R[x] (x ∷ y ∷ o.d ∷ []) (search quote depth 40 fits 9999) tt

    pub dichotomy : (n : ℕ) (x y : P[x]) (v : ℕ) → x ≺ n → Deg K y v → x * x - D * (y * y) ≺ suc g → Big x y ⊎ Big x (- y)
    dichotomy n x y v hx hy h = ⊎_elim (λ q. inl (record { height = v; y_deg = hy; near = q })) (λ q. inr (record { height = v; y_deg = deg_neg K y v hy; near = low_path K v turn q })) (go (degree K k b b_low))
      where
        k : ℕ
        k = n +ₙ suc (suc g) +ₙ suc v

        a : P[x]
        a = x - o.d * y

        b : P[x]
        b = x + o.d * y

        turn : b ≡ x - o.d * (- y)
        turn = ring R[x] (x ∷ y ∷ o.d ∷ []) (search quote depth 40 fits 9999) tt

        dy_low : o.d * y ≺ k
        dy_low = low_up K (o.d * y) (omega arith) (dy_deg y v hy).low

        x_low : x ≺ k
        x_low = low_up K x (omega arith) hx

        a_low : a ≺ k
        a_low = low_sub K x (o.d * y) k x_low dy_low

        b_low : b ≺ k
        b_low = low_add K x (o.d * y) k x_low dy_low

        product : (x * x - D * (y * y)) + o.e * (y * y) ≡ a * b
        product = ring_from R[x] (x ∷ y ∷ o.d ∷ o.e ∷ D ∷ []) (times R[x] (- (y * y)) o.is) (search quote depth 40 fits 9999) tt

        product_low : a * b ≺ suc g +ₙ (v +ₙ v)
        product_low = low_path K _ product (low_add K _ _ _ (low_up K _ (omega arith) h) (low_mul K o.e (y * y) (suc g) (v +ₙ v) o.e_low (deg_mul K y y v v hy hy).low))

        -- where b is below 2 d y, a has its degree
        other : b ≺ suc g +ₙ v → b ≺ v
        other hb = low_quotient K k b a v (suc g +ₙ v) a_deg b_low (λ i q. low_path K _ swap product_low i (omega arith))
          where
            swap : a * b ≡ b * a
            swap = ring R[x] (a ∷ b ∷ []) (search quote depth 40 fits 9999) tt

            a_deg : Deg K a (suc g +ₙ v)
            a_deg = deg_path K _ (ring R[x] (x ∷ y ∷ o.d ∷ []) (search quote depth 40 fits 9999) tt) (deg_dominant K (- (o.d * y + o.d * y)) b _ (deg_neg K _ _ (deg_twice K (o.d * y) _ (dy_deg y v hy))) hb)

        go : (b ≡ 𝟘) ⊎ ((m : ℕ) × (m < k) × Deg K b m) → (a ≺ v) ⊎ (b ≺ v)
        go (inl z) = inr (low_path K v (sym z) (low_zero K v))
        go (inr t) = ⊎_elim (λ big. inl (low_quotient K k a b v t.0 t.2 a_low (λ i q. product_low i (omega arith)))) (λ less. inr (other (low_up K b less t.2.low))) (le_or_lt (suc g +ₙ v) t.0)
