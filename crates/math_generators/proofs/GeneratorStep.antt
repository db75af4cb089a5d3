-- The proofs of specs/GeneratorStep.
use Rattle.std.specs.Prelude.{ℕ, suc, ◌+◌ as ◌+ₙ◌, ◌-◌ as ◌-ₙ◌, ◌≤◌, ◌<◌, ◌≡◌, refl, [], ◌∷◌}
use Rattle.std.proofs.Common.{arith, sym, ap, ◌∙◌, subst, ⊎_elim}
use Rattle.math_ring.specs.Ring.{CRing}
use Rattle.math_ring.specs.Identity.{ring, ring_from, times, plus, quote}
use Rattle.math_ring.specs.Identities.{generator_x, generator_norm, generator_plus, generator_minus}
use Rattle.math_ring.specs.Series.{Series, con}
use Rattle.math_ring.specs.Order.{le_or_lt}
use Rattle.math_ring.specs.Division.{below_con}
use Rattle.math_algebra.specs.Field.{Field}
use Rattle.math_algebra.specs.Polynomial.{F, Px, ◌≺◌ as Low, Deg, low_up, low_add, low_sub, low_mul, low_path, low_quotient, deg_path, deg_mul, deg_neg, deg_con, deg_dominant, deg_factor}
use Rattle.math_algebra.specs.Associate.{associate_path, associate_trans, associate_low, associate_scale}
use Rattle.math_surd.specs.Root.{Root, deg_twice, d_deg, D_low}
use Rattle.math_surd.specs.Big.{Big}
use Rattle.math_surd.proofs.Big.{big_sum_deg}
use Rattle.math_surd.specs.Ideal.{Follows}
use Rattle.math_algebra.specs.Finite.{Finite, finite_add, finite_neg, finite_sub, finite_mul, finite_by, finite_monic, cancel_left}
use Rattle.math_ideals.specs.Reduction.{next_P_finite}
use Rattle.math_generators.specs.Generators.{Generates}
use Rattle.math_generators.specs.GeneratorStep as defs

module _ {A : Type 0} (K : Field A) where
  open Series (F K) use {add as ◌+◌, mul as ◌*◌, neg as -◌, one as 𝟙}

  infixl 6 ◌+◌ ◌-◌
  infixl 7 ◌*◌
  infix 8 -◌
  infix 4 ◌≺◌
  abbrev P[x] : Type 0
  P[x] = Px K

  abbrev R[x] : CRing P[x]
  R[x] = Series (F K)

  abbrev ◌-◌ : P[x] → P[x] → P[x]
  a - b = a + (- b)

  abbrev ◌≺◌ : P[x] → ℕ → Type 0
  ◌≺◌ = Low K

  module _ {g : ℕ} {D : P[x]} {o : Root K g D} {Q P Q' P' : P[x]} (f : Follows K o Q P Q' P') where
    abbrev Stepped : (x y : P[x]) → Type 0
    Stepped = defs.Stepped K f

    -- ---- the proof
    module _ {x y : P[x]} (h : Generates K D x y Q P) (x_finite : Finite K x) (y_finite : Finite K y) where
      abbrev d : P[x]
      d = o.d

      abbrev a : P[x]
      a = f.sum.by

      abbrev t : P[x]
      t = h.divides.by

      abbrev next_y : P[x]
      next_y = a * y + t

      abbrev next_x : P[x]
      next_x = P' * next_y + Q' * y

      abbrev next_Q_finite : Finite K Q'
      next_Q_finite = record { size = f.size; low = f.low }

      next_y_finite : Finite K next_y
      next_y_finite = finite_add K (finite_mul K (finite_by K f.sum) y_finite) (finite_by K h.divides)

      next_x_finite : Finite K next_x
      next_x_finite = finite_add K (finite_mul K (next_P_finite K f) next_y_finite) (finite_mul K next_Q_finite y_finite)

      exact : D ≡ P' * P' + Q * Q'
      exact = f.norm ∙ ap (λ u. P' * P' + u) (R[x].mul_comm Q' Q)

      next_y_is : x + y * P' ≡ Q * next_y
      next_y_is = ring_from R[x] (x ∷ y ∷ Q ∷ P ∷ P' ∷ a ∷ t ∷ []) (plus R[x] (times R[x] 𝟙 h.divides.is) (times R[x] y f.sum.is)) (search quote depth 40 fits 9999) tt

      next_x_is : x * P' + y * D ≡ Q * next_x
      next_x_is = generator_x R[x] Q x y P' Q' next_y exact next_y_is refl

      -- the norm is Q' times the constant before, negated
      norm_is : next_x * next_x - D * (next_y * next_y) ≡ - con (F K) h.norm.factor * Q'
      norm_is = cancel_left K f.deg (finite_sub K (finite_mul K next_x_finite next_x_finite) (finite_mul K (record { size = _; low = D_low K o }) (finite_mul K next_y_finite next_y_finite))) (finite_mul K (finite_neg K (record { size = 1; low = below_con (F K) h.norm.factor })) next_Q_finite) (generator_norm R[x] Q x y P' Q' next_y exact next_y_is refl ∙ same)
        where
          same : - (Q' * (x * x - D * (y * y))) ≡ Q * (- con (F K) h.norm.factor * Q')
          same = ring_from R[x] (x ∷ y ∷ D ∷ Q ∷ Q' ∷ con (F K) h.norm.factor ∷ []) (times R[x] (- Q') h.norm.is) (search quote depth 40 fits 9999) tt

      next_generates : Generates K D next_x next_y Q' P'
      next_generates = record {
        divides = record { by = y; size = y_finite.size; low = y_finite.low; is = ring R[x] (P' ∷ Q' ∷ next_y ∷ y ∷ []) (search quote depth 40 fits 9999) tt };
        norm = associate_trans K (associate_path K norm_is) (associate_scale K (- con (F K) h.norm.factor) Q' (deg_neg K _ 0 (deg_con K h.norm.factor h.norm.some)));
      }

      -- ---- big through a step: κ' is the degree of Q', j that of P' + d
      module _ {κ' j : ℕ} (q : Deg K Q' κ') (u : Deg K (P' + d) j) (less : κ' < j) (b : Big K o x y) where
        abbrev v : ℕ
        v = b.height

        abbrev v' : ℕ
        v' = (v +ₙ j) -ₙ f.κ

        y_factor : (f.κ ≤ v +ₙ j) × Deg K next_y v'
        y_factor = deg_factor K next_y_finite.size next_y Q (v +ₙ j) f.κ next_y_finite.low f.deg (deg_path K _ same (deg_dominant K (y * (P' + d)) (x - d * y) (v +ₙ j) (deg_mul K y (P' + d) v j b.y_deg u) (low_up K (x - d * y) (omega arith) b.near)))
          where
            same : y * (P' + d) + (x - d * y) ≡ next_y * Q
            same = ring_from R[x] (x ∷ y ∷ Q ∷ P' ∷ d ∷ next_y ∷ []) (times R[x] 𝟙 next_y_is) (search quote depth 40 fits 9999) tt

        ye_low : y * o.e ≺ suc v +ₙ g
        ye_low = low_mul K y o.e (suc v) g b.y_deg.low o.e_low

        plus_factor : (f.κ ≤ suc g +ₙ v +ₙ j) × Deg K (next_x + d * next_y) ((suc g +ₙ v +ₙ j) -ₙ f.κ)
        plus_factor = deg_factor K fin.size (next_x + d * next_y) Q _ f.κ fin.low f.deg (deg_path K _ same (deg_dominant K ((x + d * y) * (P' + d)) (y * o.e) _ (deg_mul K (x + d * y) (P' + d) (suc g +ₙ v) j (big_sum_deg K o x y b) u) (low_up K (y * o.e) (omega arith) ye_low)))
          where
            fin : Finite K (next_x + d * next_y)
            fin = finite_add K next_x_finite (finite_mul K (finite_monic K o.monic) next_y_finite)

            same : (x + d * y) * (P' + d) + y * o.e ≡ (next_x + d * next_y) * Q
            same = sym (generator_plus R[x] Q x y d o.e D P' next_x next_y next_y_is next_x_is o.is) ∙ R[x].mul_comm Q (next_x + d * next_y)

        minus_finite : Finite K (next_x - d * next_y)
        minus_finite = finite_sub K next_x_finite (finite_mul K (finite_monic K o.monic) next_y_finite)

        -- where Q' is reduced, by the norm
        near_reduced : κ' ≤ g → next_x - d * next_y ≺ v'
        near_reduced small = low_quotient K minus_finite.size (next_x - d * next_y) (next_x + d * next_y) v' (suc g +ₙ v') (subst (Deg K (next_x + d * next_y)) at plus_factor.1) minus_finite.low (low_path K _ same (low_add K _ _ _ (low_up K _ (omega arith) (associate_low K (suc g) next_generates.norm (low_up K Q' (omega arith) q.low))) (low_up K _ (omega arith) (low_mul K o.e (next_y * next_y) (suc g) (v' +ₙ v') o.e_low (deg_mul K next_y next_y v' v' y_factor.1 y_factor.1).low))))
          where
            at : (suc g +ₙ v +ₙ j) -ₙ f.κ ≡ suc g +ₙ v'
            at = omega (arith, y_factor.0)

            same : (next_x * next_x - D * (next_y * next_y)) + o.e * (next_y * next_y) ≡ (next_x - d * next_y) * (next_x + d * next_y)
            same = ring_from R[x] (next_x ∷ next_y ∷ d ∷ o.e ∷ D ∷ []) (times R[x] (- (next_y * next_y)) o.is) (search quote depth 40 fits 9999) tt

        -- where P' + d has at least the degree of d
        near_far : g < j → next_x - d * next_y ≺ v'
        near_far far = low_quotient K minus_finite.size (next_x - d * next_y) Q v' f.κ f.deg minus_finite.low (low_path K _ same (low_up K _ (omega (arith, y_factor.0)) (low_add K ((x - d * y) * (P' - d)) (y * o.e) (v +ₙ j) (low_mul K (x - d * y) (P' - d) v j b.near P_low) (low_up K (y * o.e) (omega arith) ye_low))))
          where
            less_two : (P' + d) - (d + d) ≡ P' - d
            less_two = ring R[x] (P' ∷ d ∷ []) (search quote depth 40 fits 9999) tt

            P_low : P' - d ≺ suc j
            P_low = low_path K _ less_two (low_sub K (P' + d) (d + d) (suc j) u.low (low_up K (d + d) (omega arith) (deg_twice K d (suc g) (d_deg K o)).low))

            same : (x - d * y) * (P' - d) + y * o.e ≡ (next_x - d * next_y) * Q
            same = sym (generator_minus R[x] Q x y d o.e D P' next_x next_y next_y_is next_x_is o.is) ∙ R[x].mul_comm Q (next_x - d * next_y)

        -- one of the two always holds
        next_big : (b' : Big K o next_x next_y) × (b'.height +ₙ f.κ ≡ b.height +ₙ j)
        next_big = (record { height = v'; y_deg = y_factor.1; near = ⊎_elim near_reduced (λ l. near_far (omega arith)) (le_or_lt κ' g) }, omega (arith, y_factor.0))

      pub stepped : Stepped x y
      stepped = record { x' = next_x; y' = next_y; x_finite = next_x_finite; y_finite = next_y_finite; y_is = sym next_y_is; x_is = sym next_x_is; generates = next_generates; big = next_big }
