-- The proofs of specs/Distance.
use Rattle.std.specs.Prelude.{ℕ, zero, suc, ◌+◌ as ◌+ₙ◌, ◌-◌ as ◌-ₙ◌, ◌*◌ as ◌*ₙ◌, ◌≤◌, ◌<◌, ◌≡◌, [], ◌∷◌}
use Rattle.std.proofs.Common.{zero-add, suc-add, suc-mul, arith, sym, ◌∙◌, subst, ⊎_elim}
use Rattle.std.proofs.Math.Path.{ap, ap₂}
use Rattle.math_ring.specs.Ring.{CRing, one_mul}
use Rattle.math_ring.specs.Identity.{ring, quote}
use Rattle.math_ring.specs.Series.{Series, add_s}
use Rattle.math_ring.specs.Order.{le_or_lt}
use Rattle.math_ring.specs.Degree.{lead_conv}
use Rattle.math_algebra.specs.Field.{Field}
use Rattle.math_algebra.specs.Polynomial.{F, Px, ◌≺◌ as Low, Deg, monic_deg, monic_one}
use Rattle.math_surd.specs.Root.{Root}
use Rattle.math_surd.specs.Walk.{Walk, κ_first}
use Rattle.math_surd.specs.Big.{Big}
use Rattle.math_surd.proofs.Big.{big_deg}
use Rattle.math_surd.specs.Convergents as convergents
use Rattle.math_surd.specs.Distance as defs

module _ {A : Type 0} (K : Field A) where
  open Series (F K) use {add as ◌+◌, mul as ◌*◌, neg as -◌, zer as 𝟘, one as 𝟙}

  infixl 6 ◌+◌ ◌-◌
  infixl 7 ◌*◌
  infix 8 -◌
  infix 4 ◌≺◌
  abbrev P[x] : Type 0
  P[x] = Px K

  abbrev R[x] : CRing P[x]
  R[x] = Series (F K)

  abbrev ◌-◌ : P[x] → P[x] → P[x]
  a - b = a + (- b)

  abbrev ◌≺◌ : P[x] → ℕ → Type 0
  ◌≺◌ = Low K

  module _ {g : ℕ} {D : P[x]} {o : Root K g D} (w : Walk K o) where
    open w use {a, κ, reduced}

    abbrev p : ℕ → P[x]
    p = convergents.p K w

    abbrev s : ℕ → P[x]
    s = convergents.s K w

    abbrev distance : ℕ → ℕ
    distance = defs.distance K w

    abbrev height : ℕ → ℕ
    height = defs.height K w

    pub distance_height : (i : ℕ) → distance (suc i) ≡ suc g +ₙ height i
    distance_height zero = omega (arith, κ_first K w)
    distance_height (suc i) = omega (arith, distance_height i)

    abbrev Growth : (i : ℕ) → Type 0
    Growth = defs.Growth K w

    abbrev growth_step : (i : ℕ) → Growth i → Growth (suc i)
    growth_step = defs.growth_step K w

    abbrev growth : (i : ℕ) → Growth i
    growth = defs.growth K w

    abbrev s_deg : (i : ℕ) → Deg K (s (suc (suc i))) (height i)
    s_deg = defs.s_deg K w

    abbrev convergent_near : (i : ℕ) → p (suc (suc i)) - o.d * s (suc (suc i)) ≺ height i
    convergent_near = defs.convergent_near K w

    abbrev convergent_big : (i : ℕ) → Big K o (p (suc (suc i))) (s (suc (suc i)))
    convergent_big = defs.convergent_big K w

    pub p_deg : (i : ℕ) → Deg K (p (suc i)) (distance i)
    p_deg zero = monic_deg K (monic_one K)
    p_deg (suc i) = subst (Deg K (p (suc (suc i)))) (sym (distance_height i)) (big_deg K o (p (suc (suc i))) (s (suc (suc i))) (convergent_big i))

    -- p and s have the same leading coefficient
    pub p_top : (i : ℕ) → p (suc (suc i)) (distance (suc i)) ≡ s (suc (suc i)) (height i)
    unfolding add_s
    p_top i =
        ap (p (suc (suc i))) (distance_height i)
        ∙ ap (λ (f : P[x]). f (suc g +ₙ height i)) led
        ∙ ap₂ (F K).add (lead_conv (F K) (suc g) (height i) o.d (s (suc (suc i))) o.monic.low (s_deg i).low ∙ ap (λ c. (F K).mul c (s (suc (suc i)) (height i))) o.monic.top ∙ one_mul (F K) (s (suc (suc i)) (height i))) (convergent_near i (suc g +ₙ height i) (omega arith))
        ∙ (F K).add_zer (s (suc (suc i)) (height i))
      where
        led : p (suc (suc i)) ≡ o.d * s (suc (suc i)) + (p (suc (suc i)) - o.d * s (suc (suc i)))
        led = ring R[x] (p (suc (suc i)) ∷ s (suc (suc i)) ∷ o.d ∷ []) (search quote depth 40 fits 9999) tt

    -- ---- the strict rise of the distance, and its bounds
    distance_add : (k i : ℕ) → distance i +ₙ k ≤ distance (k +ₙ i)
    distance_add zero i = rw zero-add (omega arith)
    distance_add (suc k) i = let h : distance i +ₙ k ≤ distance (k +ₙ i) = distance_add k i in rw suc-add (omega (arith, reduced (k +ₙ i)))

    pub distance_mono : (i j : ℕ) → i ≤ j → distance i +ₙ (j -ₙ i) ≤ distance j
    distance_mono i j h = subst (λ (n : ℕ). distance i +ₙ (j -ₙ i) ≤ distance n) at (distance_add (j -ₙ i) i)
      where
        at : (j -ₙ i) +ₙ i ≡ j
        at = omega arith

    pub distance_rise : (i j : ℕ) → i < j → distance i < distance j
    distance_rise i j h = let k = distance_mono i j (omega arith) in omega arith

    -- an order of distances is one of indices
    pub index_le : (i j : ℕ) → distance i ≤ distance j → i ≤ j
    index_le i j h = ⊎_elim (λ l. l) (λ l. absurd (let r = distance_rise j i l in omega arith)) (le_or_lt i j)

    pub index_lt : (i j : ℕ) → distance i < distance j → i < j
    index_lt i j h = ⊎_elim (λ l. absurd (let r = distance_mono j i l in omega arith)) (λ l. l) (le_or_lt j i)

    pub distance_injective : (i j : ℕ) → distance i ≡ distance j → i ≡ j
    distance_injective i j e = let a = index_le i j (omega arith) in let b = index_le j i (omega arith) in omega arith

    pub distance_least : (i : ℕ) → suc g +ₙ i ≤ distance (suc i)
    distance_least i = let h = distance_mono 1 (suc i) (omega arith) in let k = κ_first K w in omega arith

    pub distance_most : (i : ℕ) → distance i ≤ i *ₙ suc g
    distance_most zero = omega arith
    distance_most (suc i) = let h = distance_most i in let e = suc-mul i (suc g) in omega arith
