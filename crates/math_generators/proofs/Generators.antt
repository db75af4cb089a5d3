-- The proofs of specs/Generators.
use Rattle.std.specs.Prelude.{ℕ, zero, suc, ◌≡◌, [], ◌∷◌}
use Rattle.math_ring.specs.Ring.{CRing}
use Rattle.math_ring.specs.Identity.{ring, ring_from, times, plus, quote}
use Rattle.math_ring.specs.Division.{below_con}
use Rattle.math_ring.specs.Series.{Series, con}
use Rattle.math_algebra.specs.Field.{Field}
use Rattle.math_algebra.specs.Polynomial.{F, Px, one_low, low_zero}
use Rattle.math_algebra.specs.Divides.{divides_path, divides_sub, divides_mulˡ}
use Rattle.math_algebra.specs.Associate.{associate_path, associate_sym, associate_trans, associate_scale, divides_associate}
use Rattle.math_surd.specs.Root.{Root}
use Rattle.math_surd.specs.Step.{State}
use Rattle.math_surd.specs.Walk.{Walk}
use Rattle.math_surd.specs.Convergents.{sign}
use Rattle.math_surd.proofs.Convergents.{sign_constant, norm_convergent, linear}
use Rattle.math_surd.specs.Convergents as convergents
use Rattle.math_surd.specs.Distance.{s_deg}
use Rattle.math_surd.specs.Ideal.{SameIdeal}
use Rattle.math_algebra.specs.Finite.{Finite, finite_add, finite_sub, finite_mul, finite_deg, finite_by, cancel_left}
use Rattle.math_generators.specs.Generators as defs

module _ {A : Type 0} (K : Field A) where
  open Series (F K) use {add as ◌+◌, mul as ◌*◌, neg as -◌, one as 𝟙}

  infixl 6 ◌+◌ ◌-◌
  infixl 7 ◌*◌
  infix 8 -◌
  abbrev P[x] : Type 0
  P[x] = Px K

  abbrev R[x] : CRing P[x]
  R[x] = Series (F K)

  abbrev ◌-◌ : P[x] → P[x] → P[x]
  a - b = a + (- b)

  abbrev Generates : (D x y Q P : P[x]) → Type 0
  Generates = defs.Generates K

  -- a generator sees only the ideal
  pub generates_same : {D x y Q P Q' P' : P[x]} → Finite K y → SameIdeal K Q P Q' P' → Generates D x y Q' P' → Generates D x y Q P
  generates_same {x = x} {y} {P = P} {P' = P'} f s h = record {
    divides = divides_associate K (associate_sym K s.ratio) (divides_path K join (divides_sub K h.divides (divides_mulˡ K y f.size f.low s.congruent)));
    norm = associate_trans K h.norm (associate_sym K s.ratio);
  }
    where
      join : (x - y * P') - y * (P - P') ≡ x - y * P
      join = ring R[x] (x ∷ y ∷ P ∷ P' ∷ []) (search quote depth 40 fits 9999) tt

  -- ---- Q and y have no common factor: a combination of them is the constant of the norm
  module _ {D x y Q C P : P[x]} (s : State K D Q C P) (h : Generates D x y Q P) (y_finite : Finite K y) where
    abbrev t : P[x]
    t = h.divides.by

    abbrev cofactor : P[x]
    cofactor = defs.cofactor K s h y_finite

    pub cofactor_finite : Finite K cofactor
    cofactor_finite = finite_sub K (finite_add K Pt Pt) (finite_mul K (record { size = s.size; low = s.C_low }) y_finite)
      where
        Pt : Finite K (P * t)
        Pt = finite_mul K (record { size = s.size; low = s.P_low }) (finite_by K h.divides)

    abbrev constant : P[x]
    constant = con (F K) h.norm.factor

    pub combination : constant ≡ Q * (t * t) + cofactor * y
    combination = cancel_left K s.deg (record { size = 1; low = below_con (F K) h.norm.factor }) (finite_add K (finite_mul K (finite_deg K s.deg) (finite_mul K (finite_by K h.divides) (finite_by K h.divides))) (finite_mul K cofactor_finite y_finite)) same
      where
        same : Q * constant ≡ Q * (Q * (t * t) + cofactor * y)
        same = ring_from R[x] (x ∷ y ∷ Q ∷ C ∷ P ∷ t ∷ D ∷ constant ∷ []) (plus R[x] (times R[x] (- 𝟙) h.norm.is) (plus R[x] (times R[x] (x + y * P + Q * t) h.divides.is) (times R[x] (- (y * y)) s.norm))) (search quote depth 40 fits 9999) tt

  -- ---- the convergents
  module _ {g : ℕ} {D : P[x]} {o : Root K g D} (w : Walk K o) where
    open w use {Q, P}

    abbrev p : ℕ → P[x]
    p = convergents.p K w

    abbrev s : ℕ → P[x]
    s = convergents.s K w

    pub s_finite : (i : ℕ) → Finite K (s i)
    s_finite zero = record { size = 1; low = one_low K }
    s_finite (suc zero) = record { size = 0; low = low_zero K 0 }
    s_finite (suc (suc i)) = finite_deg K (s_deg K w i)

    -- the convergent of index i - 1 generates the ideal of state i
    pub convergent_generates : (i : ℕ) → Generates D (p (suc i)) (s (suc i)) (Q i) (P i)
    convergent_generates i = record {
      divides = record { by = s i; size = (s_finite i).size; low = (s_finite i).low; is = ring_from R[x] (p (suc i) ∷ s (suc i) ∷ s i ∷ P i ∷ Q i ∷ []) (times R[x] 𝟙 (linear K w i).now) (search quote depth 40 fits 9999) tt };
      norm = associate_trans K (associate_path K (norm_convergent K w i)) (associate_scale K (sign K i) (Q i) (sign_constant K i));
    }
