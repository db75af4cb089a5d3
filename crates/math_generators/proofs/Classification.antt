-- The proofs of specs/Classification.
use Rattle.std.specs.Prelude.{ℕ, suc, ◌≤◌, ◌≡◌, [], ◌∷◌}
use Rattle.std.proofs.Common.{arith, sym}
use Rattle.math_ring.specs.Ring.{CRing}
use Rattle.math_ring.specs.Identity.{ring, ring_from, times, plus, quote}
use Rattle.math_ring.specs.Division.{below_con}
use Rattle.math_ring.specs.Series.{Series, con}
use Rattle.math_algebra.specs.Field.{Field}
use Rattle.math_algebra.specs.Polynomial.{F, Px, ◌≺◌ as Low, Deg, low_up, con_inv, deg_con, deg_mul}
use Rattle.math_algebra.specs.Divides.{Divides, divides_path, divides_refl, divides_trans, divides_add, divides_sub, divides_mul, divides_mulˡ, divides_constant}
use Rattle.math_algebra.specs.Associate.{Associate, associate_path, associate_sym, associate_trans, associate_deg, associate_low, associate_scale, associate_divides, divides_associate}
use Rattle.math_surd.specs.Root.{Root}
use Rattle.math_surd.specs.Step.{State}
use Rattle.math_surd.specs.Big.{Big}
use Rattle.math_surd.specs.Walk.{Walk, P_monic}
use Rattle.math_surd.specs.Convergents.{sign}
use Rattle.math_surd.proofs.Convergents.{sign_constant, linear}
use Rattle.math_surd.specs.Convergents as convergents
use Rattle.math_surd.proofs.Distance.{p_deg}
use Rattle.math_surd.specs.Descent.{Multiple}
use Rattle.math_surd.proofs.Descent.{descent_big, multiple_norm}
use Rattle.math_algebra.specs.Finite.{Finite, finite_sub, finite_mul, finite_deg, finite_by, finite_monic}
use Rattle.math_generators.specs.Generators.{Generates, cofactor}
use Rattle.math_generators.proofs.Generators.{cofactor_finite, combination, s_finite}
use Rattle.math_generators.specs.Classification as defs

module _ {A : Type 0} (K : Field A) where
  open Series (F K) use {add as ◌+◌, mul as ◌*◌, neg as -◌, one as 𝟙}

  infixl 6 ◌+◌ ◌-◌
  infixl 7 ◌*◌
  infix 8 -◌
  infix 4 ◌≺◌
  abbrev P[x] : Type 0
  P[x] = Px K

  abbrev R[x] : CRing P[x]
  R[x] = Series (F K)

  abbrev ◌-◌ : P[x] → P[x] → P[x]
  a - b = a + (- b)

  abbrev ◌≺◌ : P[x] → ℕ → Type 0
  ◌≺◌ = Low K

  module _ {g : ℕ} {D : P[x]} {o : Root K g D} (w : Walk K o) where
    abbrev p : ℕ → P[x]
    p = convergents.p K w

    abbrev s : ℕ → P[x]
    s = convergents.s K w

    abbrev Located : (x Q P : P[x]) → Type 0
    Located = defs.Located K w

    -- ---- the proof
    module _ {x y Q C P : P[x]} (st : State K D Q C P) (h : Generates K D x y Q P) (y_finite : Finite K y) (m : Multiple K w x y) where
      abbrev i : ℕ
      i = suc m.at

      abbrev l : P[x]
      l = m.by

      abbrev l_finite : Finite K l
      l_finite = finite_deg K m.by_deg

      abbrev t : P[x]
      t = h.divides.by

      abbrev cof : Finite K (cofactor K st h y_finite)
      cof = cofactor_finite K st h y_finite

      norm_Q : Associate K (sign K i * (l * l * w.Q i)) Q
      norm_Q = associate_trans K (associate_path K (sym (multiple_norm K w m))) h.norm

      -- λ divides Q and y, so it is a constant
      by_Q : Divides K l Q
      by_Q = divides_trans K (record { by = sign K i * (l * w.Q i); size = _; low = (finite_mul K (finite_deg K (sign_constant K i)) (finite_mul K l_finite (finite_deg K (w.Q_deg i)))).low; is = ring R[x] (sign K i ∷ l ∷ w.Q i ∷ []) (search quote depth 40 fits 9999) tt }) (associate_divides K (associate_sym K norm_Q))

      by_y : Divides K l y
      by_y = record { by = s (suc i); size = (s_finite K w (suc i)).size; low = (s_finite K w (suc i)).low; is = m.y_is }

      tt_finite : Finite K (t * t)
      tt_finite = finite_mul K (finite_by K h.divides) (finite_by K h.divides)

      by_constant : Deg K l 0
      by_constant = divides_constant K (suc m.size) m.by_deg.low (divides_path K (sym (combination K st h y_finite)) (divides_add K (divides_mul K (t * t) _ tt_finite.low by_Q) (divides_mulˡ K (cofactor K st h y_finite) _ cof.low by_y))) (deg_con K h.norm.factor h.norm.some)

      Q_ratio : Associate K Q (w.Q i)
      Q_ratio = associate_trans K (associate_sym K norm_Q) (associate_trans K (associate_path K same) (associate_scale K (sign K i * (l * l)) (w.Q i) (deg_mul K (sign K i) (l * l) 0 0 (sign_constant K i) (deg_mul K l l 0 0 by_constant by_constant))))
        where
          same : sign K i * (l * l * w.Q i) ≡ sign K i * (l * l) * w.Q i
          same = ring R[x] (sign K i ∷ l ∷ w.Q i ∷ []) (search quote depth 40 fits 9999) tt

      abbrev shift : P[x]
      shift = defs.shift K w st h y_finite m

      shift_finite : Finite K shift
      unfolding defs.shift
      shift_finite = finite_sub K (record { size = st.size; low = st.P_low }) (finite_monic K (P_monic K w m.at))

      y_shift : Divides K (w.Q i) (y * shift)
      unfolding defs.shift
      y_shift = divides_path K join (divides_sub K own (divides_associate K Q_ratio h.divides))
        where
          own : Divides K (w.Q i) (x - y * w.P i)
          own = record {
            by = l * s i;
            size = _;
            low = (finite_mul K l_finite (s_finite K w i)).low;
            is = ring_from R[x] (x ∷ y ∷ l ∷ p (suc i) ∷ s (suc i) ∷ s i ∷ w.P i ∷ w.Q i ∷ []) (plus R[x] (times R[x] 𝟙 m.x_is) (plus R[x] (times R[x] (- w.P i) m.y_is) (times R[x] l (linear K w i).now))) (search quote depth 40 fits 9999) tt;
          }

          join : (x - y * w.P i) - (x - y * P) ≡ y * (P - w.P i)
          join = ring R[x] (x ∷ y ∷ P ∷ w.P i ∷ []) (search quote depth 40 fits 9999) tt

      congruent : Divides K (w.Q i) (P - w.P i)
      unfolding defs.shift
      congruent = divides_path K free (divides_mulˡ K (con (F K) (K.inv h.norm.factor)) 1 (below_con (F K) (K.inv h.norm.factor)) scaled)
        where
          scaled : Divides K (w.Q i) (con (F K) h.norm.factor * shift)
          scaled = divides_path K spread (divides_add K (divides_mul K (t * t * shift) _ (finite_mul K tt_finite shift_finite).low (divides_associate K Q_ratio (divides_refl K Q))) (divides_mulˡ K (cofactor K st h y_finite) _ cof.low y_shift))
            where
              spread : Q * (t * t * shift) + cofactor K st h y_finite * (y * shift) ≡ con (F K) h.norm.factor * shift
              spread = ring_from R[x] (Q ∷ t ∷ shift ∷ cofactor K st h y_finite ∷ y ∷ con (F K) h.norm.factor ∷ []) (times R[x] (- shift) (combination K st h y_finite)) (search quote depth 40 fits 9999) tt

          free : con (F K) (K.inv h.norm.factor) * (con (F K) h.norm.factor * shift) ≡ shift
          free = ring_from R[x] (con (F K) (K.inv h.norm.factor) ∷ con (F K) h.norm.factor ∷ shift ∷ []) (times R[x] shift (con_inv K h.norm.factor h.norm.some)) (search quote depth 40 fits 9999) tt

      located : Located x Q P
      located = record {
        at = m.at;
        same = record { ratio = Q_ratio; congruent = congruent };
        x_deg = associate_deg K (associate_trans K (associate_path K m.x_is) (associate_scale K l (p (suc i)) by_constant)) (p_deg K w i);
      }

    pub classify : {x y Q C P : P[x]} (st : State K D Q C P) → st.κ ≤ g → Generates K D x y Q P → Big K o x y → Located x Q P
    classify {x} {y} {Q} st small h b = located st h (finite_deg K b.y_deg) (descent_big K w x y norm_low b)
      where
        norm_low : x * x - D * (y * y) ≺ suc g
        norm_low = associate_low K (suc g) h.norm (low_up K Q (omega arith) st.deg.low)
