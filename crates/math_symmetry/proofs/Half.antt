-- The proofs of specs/Half.
use Rattle.std.specs.Prelude.{ℕ, zero, suc, ◌+◌ as ◌+ₙ◌, ◌≤◌, ◌<◌, ◌≡◌, refl, ◌⊎◌, [], ◌∷◌}
use Rattle.std.proofs.Common.{add-zero, add-suc, arith, sym, ap, ◌∙◌, subst, inl, inr, ⊎_elim}
use Rattle.math_ring.specs.Ring.{CRing}
use Rattle.math_ring.specs.Identity.{ring_from, times, plus, quote}
use Rattle.math_ring.specs.Series.{Series}
use Rattle.math_ring.specs.Order.{le_or_lt}
use Rattle.math_algebra.specs.Field.{Field}
use Rattle.math_algebra.specs.Polynomial.{F, Px, Deg, low_up, deg_unique}
use Rattle.math_algebra.specs.Associate.{associate_refl, associate_cofactor}
use Rattle.math_surd.specs.Root.{Root}
use Rattle.math_surd.specs.Walk.{Walk, norm, κ_first}
use Rattle.math_surd.proofs.Same.{same_κ}
use Rattle.math_surd.specs.Convergents as convergents
use Rattle.math_surd.specs.Distance.{distance}
use Rattle.math_surd.proofs.Distance.{distance_height, distance_mono}
use Rattle.math_surd.specs.QuasiPeriod.{QuasiPeriod, NoneConstant}
use Rattle.math_surd.proofs.QuasiPeriod.{quasi_period_or_none}
use Rattle.math_surd.specs.LeastDegree.{Solution}
use Rattle.math_surd.proofs.LeastDegree.{spent, reached, reached_deg}
use Rattle.math_symmetry.specs.Reflect.{Reflect}
use Rattle.math_symmetry.proofs.Reflect.{reflect_add}
use Rattle.math_symmetry.proofs.Period.{κ_period}
use Rattle.math_symmetry.proofs.Palindrome.{reflects, P_symmetric, distance_symmetric}
use Rattle.math_symmetry.specs.Half as defs

module _ {A : Type 0} (K : Field A) where
  open Series (F K) use {add as ◌+◌, mul as ◌*◌, neg as -◌, one as 𝟙}

  infixl 6 ◌+◌
  infixl 7 ◌*◌
  infix 8 -◌
  abbrev P[x] : Type 0
  P[x] = Px K

  abbrev R[x] : CRing P[x]
  R[x] = Series (F K)

  module _ {g : ℕ} {D : P[x]} {o : Root K g D} (w : Walk K o) where
    open w use {Q, P, κ, Q_deg, reduced}

    abbrev MiddleQ : ℕ → Type 0
    MiddleQ = defs.MiddleQ K w

    abbrev MiddleP : ℕ → Type 0
    MiddleP = defs.MiddleP K w

    abbrev NoMiddle : (b : ℕ) → Type 0
    NoMiddle = defs.NoMiddle K w

    abbrev FirstMiddle : (i m : ℕ) → Type 0
    FirstMiddle = defs.FirstMiddle K w

    abbrev Half : Type 0
    Half = defs.Half K w

    abbrev Duplication : Type 0
    Duplication = defs.Duplication K w

    abbrev Found : ℕ → Type 0
    Found = defs.Found K w

    abbrev Within : ℕ → Type 0
    Within = defs.Within K w

    abbrev Solvable : ℕ → Type 0
    Solvable = defs.Solvable K w

    abbrev Budget : (b : ℕ) → Type 0
    Budget = defs.Budget K w

    -- ---- the proof
    -- where a test holds, a Q twice as far on is constant
    reflected_constant : (n : ℕ) → Reflect K w n 0 → κ n ≡ 0
    reflected_constant n h = same_κ K w n 0 h.ratio ∙ κ_first K w

    constant_Q : (i : ℕ) → MiddleQ i → κ (suc (i +ₙ i)) ≡ 0
    constant_Q i h = reflected_constant (suc (i +ₙ i)) (reflect_add K w i i 0 (rw (add-zero i) (record { P_is = refl; ratio = h })))

    reflect_P : (i : ℕ) → MiddleP i → Reflect K w (suc (suc i)) i
    reflect_P i h = record { P_is = sym h; ratio = associate_cofactor K (Q i) (Q (suc (suc i))) (κ (suc i)) (suc (κ i +ₙ κ (suc (suc i)))) (associate_refl K (Q (suc i))) (Q_deg (suc i)) (low_up K (Q i) (omega arith) (Q_deg i).low) (low_up K (Q (suc (suc i))) (omega arith) (Q_deg (suc (suc i))).low) product }
      where
        product : Q (suc i) * Q i ≡ Q (suc i) * Q (suc (suc i))
        product = ring_from R[x] (Q i ∷ Q (suc i) ∷ Q (suc (suc i)) ∷ P (suc i) ∷ P (suc (suc i)) ∷ D ∷ []) (plus R[x] (times R[x] (- 𝟙) (norm K w (suc i))) (plus R[x] (times R[x] 𝟙 (norm K w (suc (suc i)))) (times R[x] (- (P (suc i) + P (suc (suc i)))) h))) (search quote depth 40 fits 9999) tt

    constant_P : (i : ℕ) → MiddleP i → κ (suc (suc (i +ₙ i))) ≡ 0
    constant_P i h = ap (λ (n : ℕ). κ (suc n)) (sym (add-suc i i)) ∙ reflected_constant (suc (i +ₙ suc i)) (reflect_add K w i (suc i) 0 (rw (add-zero i) (reflect_P i h)))

    -- ---- and the tests hold in the middle of a walk to a constant Q
    middle_Q : (i : ℕ) → κ (suc (i +ₙ i)) ≡ 0 → MiddleQ i
    middle_Q i c = (reflects K w (suc (i +ₙ i)) c i i refl).ratio

    middle_P : (i : ℕ) → κ (suc (suc (i +ₙ i))) ≡ 0 → MiddleP i
    middle_P i c = P_symmetric K w (suc (suc (i +ₙ i))) c i (suc i) (omega arith)

    -- ---- no test holds before b exactly if no Q is constant up to 2 b
    -- n is 2i + 1 or 2i
    halves : (n : ℕ) → ((i : ℕ) × (n ≡ suc (i +ₙ i))) ⊎ ((i : ℕ) × (n ≡ i +ₙ i))
    halves zero = inr (0, omega arith)
    halves (suc n) = ⊎_elim (λ r. let e = r.1 in inr (suc r.0, omega arith)) (λ r. let e = r.1 in inl (r.0, omega arith)) (halves n)

    constant_none : (b : ℕ) → NoMiddle b → NoneConstant K w (b +ₙ b)
    constant_none b h j p l c = ⊎_elim odd even (halves j)
      where
        odd : (i : ℕ) × (j ≡ suc (i +ₙ i)) → ⊥
        odd r = let e = r.1 in h.no_Q r.0 (omega arith) (middle_Q r.0 (ap κ (sym e) ∙ c))

        even : (i : ℕ) × (j ≡ i +ₙ i) → ⊥
        even (zero, e) = omega arith
        even (suc i, e) = h.no_P i (omega arith) (middle_P i (let n : suc (suc (i +ₙ i)) ≡ j = omega arith in ap κ n ∙ c))

    middle_none : (b : ℕ) → NoneConstant K w (b +ₙ b) → NoMiddle b
    middle_none b none = record {
      no_Q = λ i h t. none (suc (i +ₙ i)) (omega arith) (omega arith) (constant_Q i t);
      no_P = λ i h t. none (suc (suc (i +ₙ i))) (omega arith) (omega arith) (constant_P i t);
    }

    -- ---- the first middle tells the quasi-period
    first_constant : (n : ℕ) → NoneConstant K w n → κ (suc n) ≡ 0 → QuasiPeriod K w (suc n)
    first_constant n none c = record { positive = omega arith; constant = c; least = λ j p l. none j p (omega arith) }

    period_Q : (i : ℕ) → NoMiddle i → MiddleQ i → QuasiPeriod K w (suc (i +ₙ i))
    period_Q i h t = first_constant (i +ₙ i) (constant_none i h) (constant_Q i t)

    period_P : (i : ℕ) → NoMiddle i → (MiddleQ i → ⊥) → MiddleP i → QuasiPeriod K w (suc (suc (i +ₙ i)))
    period_P i h not t = first_constant (suc (i +ₙ i)) none (constant_P i t)
      where
        none : NoneConstant K w (suc (i +ₙ i))
        none j p l c = ⊎_elim (λ k. constant_none i h j p k c) (λ k. not (middle_Q i (let n : suc (i +ₙ i) ≡ j = omega arith in ap κ n ∙ c))) (le_or_lt j (i +ₙ i))

    period_of : (i m : ℕ) → FirstMiddle i m → QuasiPeriod K w m
    period_of i m f = ⊎_elim (λ r. subst (QuasiPeriod K w) (sym r.1) (period_Q i f.before r.0)) (λ r. subst (QuasiPeriod K w) (sym r.2) (period_P i f.before r.0 r.1)) f.here

    -- ---- and the quasi-period is told by a first middle
    before_middle : (m : ℕ) → QuasiPeriod K w m → (i : ℕ) → i +ₙ i < m → NoMiddle i
    before_middle m first i l = middle_none i (λ j p q. first.least j p (omega arith))

    middle_of : (m : ℕ) → QuasiPeriod K w m → (i : ℕ) × FirstMiddle i m
    middle_of m first = ⊎_elim odd even (halves m)
      where
        odd : (i : ℕ) × (m ≡ suc (i +ₙ i)) → (i : ℕ) × FirstMiddle i m
        odd r = let e = r.1 in (r.0, record { before = before_middle m first r.0 (omega arith); here = inl (middle_Q r.0 (ap κ (sym e) ∙ first.constant), e) })

        even : (i : ℕ) × (m ≡ i +ₙ i) → (i : ℕ) × FirstMiddle i m
        even (zero, e) = absurd (let p = first.positive in omega arith)
        even (suc i, e) = (i, record { before = before_middle m first i (omega arith); here = inr (λ t. first.least (suc (i +ₙ i)) (omega arith) (omega arith) (constant_Q i t), middle_P i (let n : suc (suc (i +ₙ i)) ≡ m = omega arith in ap κ n ∙ first.constant), omega arith) })

    -- both hold at one i only where Q_1 is constant
    both_constant : (i : ℕ) → MiddleQ i → MiddleP i → κ 1 ≡ 0
    both_constant i t u = sym (κ_period K w (suc (i +ₙ i)) (constant_Q i t) 1) ∙ (let n : 1 +ₙ suc (i +ₙ i) ≡ suc (suc (i +ₙ i)) = omega arith in ap κ n) ∙ constant_P i u

    pub half : Half
    half = record {
      Q_constant = constant_Q;
      Q_middle = middle_Q;
      P_constant = constant_P;
      P_middle = middle_P;
      period = period_of;
      middle = middle_of;
      regulator_Q = λ i t. let h = distance_symmetric K w (suc (i +ₙ i)) (constant_Q i t) (suc i) i (omega arith) in let r = reduced i in omega arith;
      regulator_P = λ i t. let h = distance_symmetric K w (suc (suc (i +ₙ i))) (constant_P i t) (suc i) (suc i) (omega arith) in omega arith;
      both = λ i t u. first_constant 0 (λ j p l c. omega arith) (both_constant i t u);
    }

    -- ---- the budget
    module _ (b : ℕ) where
      middle_near : (i m : ℕ) → FirstMiddle i m → (i +ₙ i < m) × (m ≤ suc (suc (i +ₙ i)))
      middle_near i m f = ⊎_elim (λ r. let e = r.1 in (omega arith, omega arith)) (λ r. let e = r.2 in (omega arith, omega arith)) f.here

      within : Found b → Within b
      within r = (r.1, let a = middle_near r.0 r.1 r.3 in omega (arith, r.2), period_of r.0 r.1 r.3)

      finds : Within b → Found b
      finds r = let t = middle_of r.0 r.2 in (t.0, r.0, let a = middle_near t.0 r.0 t.1 in omega (arith, r.1), t.1)

      decide : Found b ⊎ NoMiddle b
      decide = ⊎_elim (λ r. inl (finds r)) (λ none. inr (middle_none b none)) (quasi_period_or_none K w (b +ₙ b))

      above : NoMiddle b → {X Y : P[x]} → Solution K D X Y → (n : ℕ) × Deg K X n × (distance K w (b +ₙ b) < n)
      above h u = spent K w (b +ₙ b) (constant_none b h) u

      solution : Within b → Solvable b
      solution r = (convergents.p K w (suc r.0), convergents.s K w (suc r.0), distance K w r.0, reached K w r.0 r.2, reached_deg K w r.0 r.2, let h = distance_mono K w r.0 (b +ₙ b) r.1 in omega arith)

      solved : Solvable b → Found b
      solved v = ⊎_elim (λ f. f) (λ h. let r = above h v.3 in absurd (let e = deg_unique K r.1 v.4 in omega (arith, r.2, v.5))) decide

      pub budget : Budget b
      budget = record { found_within = within; within_found = finds; found_solvable = λ f. solution (within f); solvable_found = solved; decided = decide; none_constant = constant_none b; none_middle = middle_none b; none_solves = above }

    -- ---- the duplication rules
    pub duplication : Duplication
    duplication = record {
      sum_Q = λ i t. let h = half.regulator_Q i t in let k = distance_height K w i in omega arith;
      sum_P = λ i t. let h = half.regulator_P i t in let k = distance_height K w i in let l = reduced (suc i) in omega arith;
      prior_Q = λ i t. let h = half.regulator_Q i t in let k = same_κ K w (suc i) i t in let l = reduced i in omega arith;
    }
