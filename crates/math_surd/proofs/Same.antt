-- The proofs of specs/Same.
use Rattle.std.specs.Prelude.{ℕ, zero, suc, ◌+◌ as ◌+ₙ◌, ◌≡◌, [], ◌∷◌}
use Rattle.std.proofs.Common.{zero-add, suc-add, arith, ◌∙◌, subst}
use Rattle.math_ring.specs.Ring.{CRing}
use Rattle.math_ring.specs.Identity.{ring_from, times, plus, quote}
use Rattle.math_ring.specs.Series.{Series}
use Rattle.math_algebra.specs.Field.{Field}
use Rattle.math_algebra.specs.Polynomial.{F, Px, ◌≺◌ as Low, low_up, deg_unique}
use Rattle.math_algebra.specs.Divides.{Divides, divides_path, divides_sub}
use Rattle.math_algebra.specs.Associate.{Associate, associate_sym, associate_deg, associate_cofactor, divides_associate}
use Rattle.math_surd.specs.Root.{Root}
use Rattle.math_surd.specs.Walk.{Walk, norm, near_prior}
use Rattle.math_surd.proofs.Walk.{P_sum}
use Rattle.math_surd.specs.Ideal.{Follows}
use Rattle.math_surd.proofs.Ideal.{near_rigid, next_same, next_same_P}
use Rattle.math_surd.specs.Same as defs

module _ {A : Type 0} (K : Field A) where
  open Series (F K) use {add as ◌+◌, mul as ◌*◌, neg as -◌, one as 𝟙}

  infixl 6 ◌+◌ ◌-◌
  infixl 7 ◌*◌
  infix 8 -◌
  infix 4 ◌≺◌
  abbrev P[x] : Type 0
  P[x] = Px K

  abbrev R[x] : CRing P[x]
  R[x] = Series (F K)

  abbrev ◌-◌ : P[x] → P[x] → P[x]
  a - b = a + (- b)

  abbrev ◌≺◌ : P[x] → ℕ → Type 0
  ◌≺◌ = Low K

  module _ {g : ℕ} {D : P[x]} {o : Root K g D} (w : Walk K o) where
    open w use {Q, P, a, κ, size, Q_deg, a_low, near}

    pub divides_sum : (i : ℕ) → Divides K (Q i) (P i + P (suc i))
    divides_sum i = record { by = a i; size = size i; low = a_low i; is = P_sum K w i ∙ R[x].mul_comm (a i) (Q i) }

    pub walk_follows : (i : ℕ) → Follows K o (Q i) (P i) (Q (suc i)) (P (suc i))
    walk_follows i = record { κ = κ i; deg = Q_deg i; sum = divides_sum i; near = near_prior K w i; norm = norm K w (suc i); size = suc (κ (suc i)); low = (Q_deg (suc i)).low }

    pub same_κ : (i j : ℕ) → Associate K (Q i) (Q j) → κ i ≡ κ j
    same_κ i j h = deg_unique K (Q_deg i) (associate_deg K h (Q_deg j))

    abbrev Same : ℕ → ℕ → Type 0
    Same = defs.Same K w

    pub same_next_P : (i j : ℕ) → Same i j → P (suc i) ≡ P (suc j)
    same_next_P i j s = next_same_P K o s (walk_follows i) (walk_follows j)

    pub same_next : (i j : ℕ) → Same i j → Same (suc i) (suc j)
    same_next i j s = next_same K o s (walk_follows i) (walk_follows j)

    pub same_add : (k i j : ℕ) → Same i j → Same (k +ₙ i) (k +ₙ j)
    same_add zero i j s = rw (zero-add i, zero-add j) s
    same_add (suc k) i j s = rw (suc-add k i, suc-add k j) (same_next (k +ₙ i) (k +ₙ j) (same_add k i j s))

    pub same_P : (i j : ℕ) → Same (suc i) (suc j) → P (suc i) ≡ P (suc j)
    same_P i j s = near_rigid K o (P (suc i)) (P (suc j)) (κ (suc j)) (Q_deg (suc j)) (subst (λ (n : ℕ). P (suc i) - o.d ≺ n) (same_κ (suc i) (suc j) s.ratio) (near i)) (near j) s.congruent

    pub same_prior : (i j : ℕ) → Same (suc i) (suc j) → Same i j
    same_prior i j s = record { ratio = ratio; congruent = divides_path K join (divides_sub K (divides_associate K ratio (divides_sum i)) (divides_sum j)) }
      where
        equal : P (suc i) ≡ P (suc j)
        equal = same_P i j s

        product : Q (suc i) * Q i ≡ Q (suc j) * Q j
        product = ring_from R[x] (Q i ∷ Q (suc i) ∷ Q j ∷ Q (suc j) ∷ P (suc i) ∷ P (suc j) ∷ D ∷ []) (plus R[x] (times R[x] (- 𝟙) (norm K w (suc i))) (plus R[x] (times R[x] 𝟙 (norm K w (suc j))) (times R[x] (- (P (suc i) + P (suc j))) equal))) (search quote depth 40 fits 9999) tt

        ratio : Associate K (Q i) (Q j)
        ratio = associate_sym K (associate_cofactor K (Q i) (Q j) (κ (suc j)) (suc (κ i +ₙ κ j)) s.ratio (Q_deg (suc j)) (low_up K (Q i) (omega arith) (Q_deg i).low) (low_up K (Q j) (omega arith) (Q_deg j).low) product)

        join : (P i + P (suc i)) - (P j + P (suc j)) ≡ P i - P j
        join = ring_from R[x] (P i ∷ P j ∷ P (suc i) ∷ P (suc j) ∷ []) (times R[x] 𝟙 equal) (search quote depth 40 fits 9999) tt
