-- Degrees of the convergents: the distance formula. Carried by p - d s being of smaller degree than s, so p
-- is led by d s.
use Rattle.std.specs.Prelude.{ℕ, zero, suc, ◌+◌ as ◌+ₙ◌, ◌-◌ as ◌-ₙ◌, ◌≡◌, [], ◌∷◌}
use Rattle.std.proofs.Common.{arith, subst}
use Rattle.math_ring.specs.Ring.{CRing}
use Rattle.math_ring.specs.Identity.{ring, ring_from, times, quote}
use Rattle.math_ring.specs.Series.{Series}
use Rattle.math_algebra.specs.Field.{Field}
use Rattle.math_algebra.specs.Polynomial.{F, Px, ◌≺◌ as Low, Deg, low_up, low_zero, low_add, low_mul, low_path, deg_path, deg_mul, deg_dominant, monic_deg, monic_one, one_low}
use Rattle.math_surd.specs.Root.{Root}
use Rattle.math_surd.specs.Walk.{Walk, a_first, a_deg}
use Rattle.math_surd.specs.Big.{Big}
use Rattle.math_surd.specs.Convergents as convergents

module _ {A : Type 0} (K : Field A) where
  open Series (F K) use {add as ◌+◌, mul as ◌*◌, neg as -◌, zer as 𝟘, one as 𝟙}

  infixl 6 ◌+◌ ◌-◌
  infixl 7 ◌*◌
  infix 8 -◌
  infix 4 ◌≺◌
  abbrev P[x] : Type 0
  P[x] = Px K

  abbrev R[x] : CRing P[x]
  R[x] = Series (F K)

  abbrev ◌-◌ : P[x] → P[x] → P[x]
  a - b = a + (- b)

  abbrev ◌≺◌ : P[x] → ℕ → Type 0
  ◌≺◌ = Low K

  module _ {g : ℕ} {D : P[x]} {o : Root K g D} (w : Walk K o) where
    open w use {a, κ, reduced}

    abbrev p : ℕ → P[x]
    p = convergents.p K w

    abbrev s : ℕ → P[x]
    s = convergents.s K w

    -- the degree of the convergent p of index i - 1
    abbrev pub distance : ℕ → ℕ
    distance zero = 0
    distance (suc i) = distance i +ₙ (suc g -ₙ κ i)

    -- the degree of the convergent s of index i
    abbrev pub height : ℕ → ℕ
    height zero = 0
    height (suc i) = height i +ₙ (suc g -ₙ κ (suc i))

    -- ---- s has the degree height, and p is near to d s
    pub record Growth (i : ℕ) : Type 0 where
      pub s_deg : Deg K (s (suc (suc i))) (height i)
      pub near : p (suc (suc i)) - o.d * s (suc (suc i)) ≺ height i
      pub s_prior : s (suc i) ≺ height i
      pub near_prior : p (suc i) - o.d * s (suc i) ≺ suc (height i)

    pub growth_step : (i : ℕ) → Growth i → Growth (suc i)
    growth_step i b = record {
      s_deg = deg_dominant K (a (suc i) * s (suc (suc i))) (s (suc i)) (height i +ₙ α) (subst (Deg K (a (suc i) * s (suc (suc i)))) turn (deg_mul K (a (suc i)) (s (suc (suc i))) α (height i) (a_deg K w (suc i)) b.s_deg)) (low_up K (s (suc i)) (omega arith) b.s_prior);
      near = low_path K (height i +ₙ α) same (low_add K _ _ (height i +ₙ α) (low_mul K (p (suc (suc i)) - o.d * s (suc (suc i))) (a (suc i)) (height i) α b.near (a_deg K w (suc i)).low) (low_up K _ (omega (arith, reduced (suc i))) b.near_prior));
      s_prior = low_up K (s (suc (suc i))) (omega (arith, reduced (suc i))) b.s_deg.low;
      near_prior = low_up K _ (omega arith) b.near;
    }
      where
        α : ℕ
        α = suc g -ₙ κ (suc i)

        turn : α +ₙ height i ≡ height i +ₙ α
        turn = omega arith

        same : (p (suc (suc i)) - o.d * s (suc (suc i))) * a (suc i) + (p (suc i) - o.d * s (suc i)) ≡ (a (suc i) * p (suc (suc i)) + p (suc i)) - o.d * (a (suc i) * s (suc (suc i)) + s (suc i))
        same = ring R[x] (p (suc (suc i)) ∷ s (suc (suc i)) ∷ p (suc i) ∷ s (suc i) ∷ a (suc i) ∷ o.d ∷ []) (search quote depth 40 fits 9999) tt

    pub growth : (i : ℕ) → Growth i
    growth zero = record {
      s_deg = deg_path K 0 s2 (monic_deg K (monic_one K));
      near = low_path K 0 n2 (low_zero K 0);
      s_prior = low_zero K 0;
      near_prior = low_path K 1 p1 (one_low K);
    }
      where
        s2 : 𝟙 ≡ a 0 * 𝟘 + 𝟙
        s2 = ring R[x] (a 0 ∷ []) (search quote depth 40 fits 9999) tt

        n2 : 𝟘 ≡ (a 0 * 𝟙 + 𝟘) - o.d * (a 0 * 𝟘 + 𝟙)
        n2 = ring_from R[x] (a 0 ∷ o.d ∷ []) (times R[x] (- 𝟙) (a_first K w)) (search quote depth 40 fits 9999) tt

        p1 : 𝟙 ≡ 𝟙 - o.d * 𝟘
        p1 = ring R[x] (o.d ∷ []) (search quote depth 40 fits 9999) tt
    growth (suc i) = growth_step i (growth i)

    pub s_deg : (i : ℕ) → Deg K (s (suc (suc i))) (height i)
    s_deg i = (growth i).s_deg

    pub convergent_near : (i : ℕ) → p (suc (suc i)) - o.d * s (suc (suc i)) ≺ height i
    convergent_near i = (growth i).near

    abbrev pub convergent_big : (i : ℕ) → Big K o (p (suc (suc i))) (s (suc (suc i)))
    convergent_big i = record { height = height i; y_deg = s_deg i; near = convergent_near i }
