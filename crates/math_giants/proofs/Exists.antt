-- The proofs of specs/Exists.
use Rattle.std.specs.Prelude.{ℕ, zero, suc, ◌+◌ as ◌+ₙ◌, ◌≡◌, refl, [], ◌∷◌}
use Rattle.std.proofs.Common.{arith, subst, ⊎_elim}
use Rattle.math_ring.specs.Ring.{CRing}
use Rattle.math_ring.specs.Identity.{ring, ring_from, times, plus, quote}
use Rattle.math_ring.specs.Series.{Series}
use Rattle.math_algebra.specs.Field.{Field}
use Rattle.math_algebra.specs.Polynomial.{F, Px, ◌≺◌ as Low, Deg, Monic, low_up, low_add, low_zero, low_path, low_none, deg_mul, deg_neg, deg_not_zero, deg_unique, monic_deg, monic_one}
use Rattle.math_algebra.specs.Divides.{divides_trans, divides_by_deg}
use Rattle.math_algebra.specs.Division.{Division, division}
use Rattle.math_algebra.specs.Gcd.{IsGcd, gcd_exists, gcd_zero, gcd_low, gcd_monic}
use Rattle.math_surd.specs.Root.{Root, NoSquare}
use Rattle.math_surd.specs.Step.{State, next_P, next_Q, next}
use Rattle.math_surd.specs.Big.{Big}
use Rattle.math_surd.proofs.Big.{dichotomy}
use Rattle.math_surd.specs.Walk.{Walk, walk_state}
use Rattle.math_surd.proofs.Walk.{Q_one}
use Rattle.math_surd.specs.Ideal.{Follows}
use Rattle.math_surd.proofs.Ideal.{step_follows}
use Rattle.math_algebra.specs.Finite.{Finite, finite_mul, finite_monic}
use Rattle.math_ideals.specs.Product.{Common, Multipliers, product_Q, product_P}
use Rattle.math_ideals.proofs.Product.{product_P_finite, product_meets}
use Rattle.math_ideals.specs.Steps.{Steps}
use Rattle.math_ideals.proofs.Steps.{first_reduced}
use Rattle.math_giants.specs.GiantStep.{GiantStep, product_state}
use Rattle.math_giants.specs.Exists as defs

module _ {A : Type 0} (K : Field A) where
  open Series (F K) use {add as ◌+◌, mul as ◌*◌, neg as -◌, zer as 𝟘, one as 𝟙}

  infixl 6 ◌+◌ ◌-◌
  infixl 7 ◌*◌
  infix 8 -◌
  abbrev R[x] : CRing (Px K)
  R[x] = Series (F K)

  abbrev ◌-◌ : Px K → Px K → Px K
  a - b = a + (- b)

  module _ {g : ℕ} {D : Px K} (o : Root K g D) (no_square : NoSquare K D) where
    abbrev Point : Type 0
    Point = defs.Point K o no_square

    abbrev sum_size : Point → ℕ
    sum_size = defs.sum_size K o no_square

    divided : (p : Point) → Division K (p.P + o.d) p.Q (sum_size p) p.state.κ
    unfolding defs.sum_size
    divided p = division K _ (p.P + o.d) p.Q p.state.κ (low_add K p.P o.d _ (low_up K p.P (omega arith) p.state.P_low) (low_up K o.d (omega arith) o.monic.low)) p.state.deg

    after : Point → Point
    after p = record { Q = next_Q K o p.state (divided p); C = p.Q; P = next_P K o p.state (divided p); state = next K o p.state (divided p) no_square }

    points : Point → ℕ → Point
    points p zero = p
    points p (suc i) = after (points p i)

    next_follows : (p : Point) → Follows K o p.Q p.P (after p).Q (after p).P
    unfolding after
    next_follows p = step_follows K o p.state (divided p) no_square

    points_follow : (p : Point) (i : ℕ) → Follows K o (points p i).Q (points p i).P (points p (suc i)).Q (points p (suc i)).P
    unfolding points
    points_follow p i = next_follows (points p i)

    steps_from : Point → Steps K o
    steps_from p = record { Q = λ i. (points p i).Q; P = λ i. (points p i).P; κ = λ i. (points p i).state.κ; size = λ i. sum_size (points p i); deg = λ i. (points p i).state.deg; follows = points_follow p; division = λ i. divided (points p i) }

    -- ---- the product of two states
    module _ {Q₁ C₁ P₁ Q₂ C₂ P₂ : Px K} (s₁ : State K D Q₁ C₁ P₁) (s₂ : State K D Q₂ C₂ P₂) where
      sum_low : Low K (P₁ + P₂) (s₁.size +ₙ s₂.size)
      sum_low = low_add K P₁ P₂ _ (low_up K P₁ (omega arith) s₁.P_low) (low_up K P₂ (omega arith) s₂.P_low)

      inner : (G : Px K) × IsGcd K Q₁ Q₂ G
      inner = gcd_exists K Q₁ Q₂ _ _ s₁.deg.low s₂.deg.low

      outer : (S : Px K) × IsGcd K inner.0 (P₁ + P₂) S
      outer = gcd_exists K inner.0 (P₁ + P₂) _ _ (gcd_low K inner.1).1 sum_low

      common_divisor : Common K Q₁ Q₂ (P₁ + P₂) outer.0
      common_divisor = record { σ = top.0; monic = top.1; first = divides_trans K outer.1.left inner.1.left; second = divides_trans K outer.1.left inner.1.right; sum = outer.1.right }
        where
          top : (n : ℕ) × Monic K outer.0 n
          top = gcd_monic K outer.1 (λ z. deg_not_zero K s₁.deg (gcd_zero K inner.1 (gcd_zero K outer.1 z).0).0)

      multipliers : Multipliers K Q₁ Q₂ (P₁ + P₂) outer.0
      multipliers = record {
        u = b.u * a.u;
        v = b.u * a.v;
        w = b.v;
        u_finite = finite_mul K f_b (record { size = a.size; low = a.u_low });
        v_finite = finite_mul K f_b (record { size = a.size; low = a.v_low });
        w_finite = record { size = b.size; low = b.v_low };
        is = ring_from R[x] (outer.0 ∷ inner.0 ∷ Q₁ ∷ Q₂ ∷ P₁ ∷ P₂ ∷ a.u ∷ a.v ∷ b.u ∷ b.v ∷ []) (plus R[x] (times R[x] 𝟙 b.bezout) (times R[x] b.u a.bezout)) (search quote depth 40 fits 9999) tt;
      }
        where
          a : IsGcd K Q₁ Q₂ inner.0
          a = inner.1

          b : IsGcd K inner.0 (P₁ + P₂) outer.0
          b = outer.1

          f_b : Finite K b.u
          f_b = record { size = b.size; low = b.u_low }

      -- the product as the start
      first_point : Point
      first_point = record { Q = product_Q K s₁ s₂ common_divisor; C = _; P = product_P K s₁ s₂ common_divisor multipliers; state = product_state K (finite_monic K common_divisor.monic) (product_meets K s₁ s₂ common_divisor multipliers) (product_P_finite K s₁ s₂ common_divisor multipliers) _ (deg_mul K _ _ _ _ (divides_by_deg K common_divisor.first (monic_deg K common_divisor.monic) s₁.deg) (divides_by_deg K common_divisor.second (monic_deg K common_divisor.monic) s₂.deg)) }

      pub giant_exists : GiantStep K o Q₁ P₁ Q₂ P₂
      unfolding steps_from points first_point
      giant_exists = record {
        S = outer.0;
        common = common_divisor;
        steps = steps_from first_point;
        start = refl;
        meets = product_meets K s₁ s₂ common_divisor multipliers;
        start_finite = product_P_finite K s₁ s₂ common_divisor multipliers;
        turns = (first_reduced K (steps_from first_point)).0;
        reduced = (first_reduced K (steps_from first_point)).1;
        above = (first_reduced K (steps_from first_point)).2;
      }

  -- ---- ideals of the walk
  module _ {g : ℕ} {D : Px K} {o : Root K g D} (w : Walk K o) where
    -- where there is a walk, D is not a square: it would be d², and Q_1 = D - d² would be 0
    pub walk_no_square : NoSquare K D
    walk_no_square f n h e = ⊎_elim (λ b. root 𝟙 (ring R[x] [] (search quote depth 40 fits 9999) tt) (near_zero 𝟙 one b)) (λ b. root (- 𝟙) (ring R[x] [] (search quote depth 40 fits 9999) tt) (near_zero (- 𝟙) (deg_neg K 𝟙 0 one) b)) (dichotomy K o n f 𝟙 0 h one (low_path K _ square (low_zero K _)))
      where
        one : Deg K 𝟙 0
        one = monic_deg K (monic_one K)

        square : 𝟘 ≡ f * f - D * (𝟙 * 𝟙)
        square = ring_from R[x] (f ∷ D ∷ []) (times R[x] 𝟙 e) (search quote depth 40 fits 9999) tt

        near_zero : (y : Px K) → Deg K y 0 → Big K o f y → f - o.d * y ≡ 𝟘
        near_zero y t b = low_none K (f - o.d * y) (subst (λ (k : ℕ). Low K (f - o.d * y) k) (deg_unique K b.y_deg t) b.near)

        -- f is d y with y² = 1
        root : (y : Px K) → y * y ≡ 𝟙 → f - o.d * y ≡ 𝟘 → ⊥
        root y u z = deg_not_zero K (w.Q_deg 1) (ring_from R[x] (w.Q 1 ∷ o.d ∷ o.e ∷ D ∷ f ∷ y ∷ []) (plus R[x] (times R[x] 𝟙 (Q_one K w)) (plus R[x] (times R[x] (- 𝟙) o.is) (plus R[x] (times R[x] 𝟙 e) (plus R[x] (times R[x] (f + o.d * y) z) (times R[x] (o.d * o.d) u))))) (search quote depth 40 fits 9999) tt)

    pub walk_giant : (i j : ℕ) → GiantStep K o (w.Q i) (w.P i) (w.Q j) (w.P j)
    walk_giant i j = giant_exists o walk_no_square (walk_state K w i) (walk_state K w j)
