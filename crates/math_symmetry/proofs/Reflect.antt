-- The proofs of specs/Reflect.
use Rattle.std.specs.Prelude.{ℕ, zero, suc, ◌+◌ as ◌+ₙ◌, ◌≡◌, [], ◌∷◌}
use Rattle.std.proofs.Common.{zero-add, suc-add, arith, subst}
use Rattle.math_ring.specs.Ring.{CRing}
use Rattle.math_ring.specs.Identity.{ring_from, times, plus, quote}
use Rattle.math_ring.specs.Series.{Series}
use Rattle.math_algebra.specs.Field.{Field}
use Rattle.math_algebra.specs.Polynomial.{F, Px, ◌≺◌ as Low, low_up}
use Rattle.math_algebra.specs.Divides.{divides_path, divides_sub}
use Rattle.math_algebra.specs.Associate.{associate_sym, associate_cofactor, divides_associate}
use Rattle.math_surd.specs.Root.{Root}
use Rattle.math_surd.specs.Walk.{Walk, norm, near_prior}
use Rattle.math_surd.proofs.Ideal.{near_rigid}
use Rattle.math_surd.proofs.Same.{divides_sum, same_κ}
use Rattle.math_symmetry.specs.Reflect as defs

module _ {A : Type 0} (K : Field A) where
  open Series (F K) use {add as ◌+◌, mul as ◌*◌, neg as -◌, one as 𝟙}

  infixl 6 ◌+◌ ◌-◌
  infixl 7 ◌*◌
  infix 8 -◌
  infix 4 ◌≺◌
  abbrev P[x] : Type 0
  P[x] = Px K

  abbrev R[x] : CRing P[x]
  R[x] = Series (F K)

  abbrev ◌-◌ : P[x] → P[x] → P[x]
  a - b = a + (- b)

  abbrev ◌≺◌ : P[x] → ℕ → Type 0
  ◌≺◌ = Low K

  module _ {g : ℕ} {D : P[x]} {o : Root K g D} (w : Walk K o) where
    open w use {Q, P, κ, Q_deg, near}

    abbrev Reflect : (i j : ℕ) → Type 0
    Reflect = defs.Reflect K w

    pub reflect_step : (i j : ℕ) → Reflect (suc i) (suc j) → Reflect (suc (suc i)) j
    reflect_step i j h = record { P_is = equal; ratio = associate_sym K (associate_cofactor K (Q (suc (suc i))) (Q j) (κ (suc j)) (suc (κ (suc (suc i)) +ₙ κ j)) h.ratio (Q_deg (suc j)) (low_up K (Q (suc (suc i))) (omega arith) (Q_deg (suc (suc i))).low) (low_up K (Q j) (omega arith) (Q_deg j).low) product) }
      where
        join : (P (suc i) + P (suc (suc i))) - (P (suc j) + P (suc (suc j))) ≡ P (suc (suc i)) - P (suc j)
        join = ring_from R[x] (P (suc i) ∷ P (suc (suc i)) ∷ P (suc j) ∷ P (suc (suc j)) ∷ []) (times R[x] 𝟙 h.P_is) (search quote depth 40 fits 9999) tt

        equal : P (suc (suc i)) ≡ P (suc j)
        equal = near_rigid K o (P (suc (suc i))) (P (suc j)) (κ (suc j)) (Q_deg (suc j)) (subst (λ (n : ℕ). P (suc (suc i)) - o.d ≺ n) (same_κ K w (suc i) (suc j) h.ratio) (near_prior K w (suc i))) (near j) (divides_path K join (divides_sub K (divides_associate K h.ratio (divides_sum K w (suc i))) (divides_sum K w (suc j))))

        product : Q (suc i) * Q (suc (suc i)) ≡ Q (suc j) * Q j
        product = ring_from R[x] (Q (suc i) ∷ Q (suc (suc i)) ∷ Q j ∷ Q (suc j) ∷ P (suc (suc i)) ∷ P (suc j) ∷ D ∷ []) (plus R[x] (times R[x] (- 𝟙) (norm K w (suc (suc i)))) (plus R[x] (times R[x] 𝟙 (norm K w (suc j))) (times R[x] (- (P (suc (suc i)) + P (suc j))) equal))) (search quote depth 40 fits 9999) tt

    pub reflect_add : (k i j : ℕ) → Reflect (suc i) (k +ₙ j) → Reflect (suc (k +ₙ i)) j
    reflect_add zero i j h = rw (zero-add i) (rw (zero-add j) at h)
    reflect_add (suc k) i j h = subst (λ (n : ℕ). Reflect (suc n) j) (let e : k +ₙ suc i ≡ suc k +ₙ i = omega arith in e) (reflect_add k (suc i) j (reflect_step i (k +ₙ j) (rw (suc-add k j) at h)))
