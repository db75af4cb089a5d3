-- The proofs of specs/Ideal.
use Rattle.std.specs.Prelude.{ℕ, suc, ◌+◌ as ◌+ₙ◌, ◌≡◌, refl, [], ◌∷◌}
use Rattle.std.proofs.Common.{arith, sym, ap, ◌∙◌, subst}
use Rattle.math_ring.specs.Ring.{CRing}
use Rattle.math_ring.specs.Identity.{ring, ring_from, times, plus, quote}
use Rattle.math_ring.specs.Series.{Series}
use Rattle.math_algebra.specs.Field.{Field}
use Rattle.math_algebra.specs.Polynomial.{F, Px, ◌≺◌ as Low, Deg, low_up, low_neg, low_sub, low_path, deg_unique}
use Rattle.math_algebra.specs.Divides.{Divides, divides_path, divides_add, divides_neg, divides_sub, divides_zero, rigid}
use Rattle.math_algebra.specs.Division.{Division}
use Rattle.math_algebra.specs.Associate.{Associate, associate_sym, associate_trans, associate_path, associate_deg, associate_cofactor, divides_associate}
use Rattle.math_surd.specs.Root.{Root, NoSquare}
use Rattle.math_surd.specs.Step.{State, next_P, next_Q, next_P_is, exact, next}
use Rattle.math_surd.specs.Ideal as defs

module _ {A : Type 0} (K : Field A) where
  open Series (F K) use {add as ◌+◌, mul as ◌*◌, neg as -◌, zer as 𝟘, one as 𝟙}

  infixl 6 ◌+◌ ◌-◌
  infixl 7 ◌*◌
  infix 8 -◌
  infix 4 ◌≺◌
  abbrev P[x] : Type 0
  P[x] = Px K

  abbrev R[x] : CRing P[x]
  R[x] = Series (F K)

  abbrev ◌-◌ : P[x] → P[x] → P[x]
  a - b = a + (- b)

  abbrev ◌≺◌ : P[x] → ℕ → Type 0
  ◌≺◌ = Low K

  abbrev SameIdeal : (Q P Q' P' : P[x]) → Type 0
  SameIdeal = defs.SameIdeal K

  pub same_path : {Q P Q' P' : P[x]} → Q ≡ Q' → P ≡ P' → SameIdeal Q P Q' P'
  same_path {P' = P'} q p = record { ratio = associate_path K q; congruent = divides_path K (sym (ap (λ (f : P[x]). f - P') p ∙ R[x].add_neg P')) (divides_zero K _) }

  pub same_refl : (Q P : P[x]) → SameIdeal Q P Q P
  same_refl Q P = same_path refl refl

  pub same_sym : {Q P Q' P' : P[x]} → SameIdeal Q P Q' P' → SameIdeal Q' P' Q P
  same_sym {Q} {P} {Q'} {P'} s = record { ratio = associate_sym K s.ratio; congruent = divides_path K turn (divides_neg K (divides_associate K (associate_sym K s.ratio) s.congruent)) }
    where
      turn : - (P - P') ≡ P' - P
      turn = ring R[x] (P ∷ P' ∷ []) (search quote depth 40 fits 9999) tt

  pub same_trans : {Q P Q' P' Q'' P'' : P[x]} → SameIdeal Q P Q' P' → SameIdeal Q' P' Q'' P'' → SameIdeal Q P Q'' P''
  same_trans {P = P} {P' = P'} {P'' = P''} s t = record { ratio = associate_trans K s.ratio t.ratio; congruent = divides_path K join (divides_add K (divides_associate K t.ratio s.congruent) t.congruent) }
    where
      join : (P - P') + (P' - P'') ≡ P - P''
      join = ring R[x] (P ∷ P' ∷ P'' ∷ []) (search quote depth 40 fits 9999) tt

  -- two pairs of one ideal, P negated in both, are pairs of one ideal, its conjugate
  pub same_neg : {Q P Q' P' : P[x]} → SameIdeal Q P Q' P' → SameIdeal Q (- P) Q' (- P')
  same_neg {P = P} {P' = P'} s = record { ratio = s.ratio; congruent = divides_path K turn (divides_neg K s.congruent) }
    where
      turn : - (P - P') ≡ (- P) - (- P')
      turn = ring R[x] (P ∷ P' ∷ []) (search quote depth 40 fits 9999) tt

  -- ---- the step as a relation
  module _ {g : ℕ} {D : P[x]} (o : Root K g D) where
    abbrev Follows : (Q P Q' P' : P[x]) → Type 0
    Follows = defs.Follows K o

    pub step_follows : {Q C P : P[x]} (s : State K D Q C P) {n : ℕ} (q : Division K (P + o.d) Q n s.κ) → NoSquare K D → Follows Q P (next_Q K o s q) (next_P K o s q)
    step_follows {Q} {C} {P} s {n} q no_square = record {
      κ = s.κ;
      deg = s.deg;
      sum = record { by = q.quo; size = n; low = q.quo_low; is = ring R[x] (q.quo ∷ Q ∷ P ∷ []) (search quote depth 40 fits 9999) tt };
      near = low_path K s.κ minus (low_neg K q.rem s.κ q.rem_low);
      norm = exact K o s q;
      size = suc (next K o s q no_square).κ;
      low = (next K o s q no_square).deg.low;
    }
      where
        minus : - q.rem ≡ next_P K o s q - o.d
        minus = ring_from R[x] (next_P K o s q ∷ q.rem ∷ o.d ∷ []) (times R[x] (- 𝟙) (next_P_is K o s q)) (search quote depth 40 fits 9999) tt

    -- two polynomials near to d that are congruent modulo Q are equal
    pub near_rigid : {Q : P[x]} (P P' : P[x]) (κ : ℕ) → Deg K Q κ → P - o.d ≺ κ → P' - o.d ≺ κ → Divides K Q (P - P') → P ≡ P'
    near_rigid P P' κ t h h' v = rigid K κ t v (low_path K κ join (low_sub K (P - o.d) (P' - o.d) κ h h'))
      where
        join : (P - o.d) - (P' - o.d) ≡ P - P'
        join = ring R[x] (P ∷ P' ∷ o.d ∷ []) (search quote depth 40 fits 9999) tt

    -- a step sees only the ideal
    module _ {Q P Q' P' R S R' S' : P[x]} (s : SameIdeal Q P R S) (f : Follows Q P Q' P') (h : Follows R S R' S') where
      same_degree : f.κ ≡ h.κ
      same_degree = deg_unique K f.deg (associate_deg K s.ratio h.deg)

      pub next_same_P : P' ≡ S'
      next_same_P = near_rigid P' S' h.κ h.deg (subst (λ (n : ℕ). P' - o.d ≺ n) same_degree f.near) h.near (divides_path K join (divides_sub K (divides_sub K (divides_associate K s.ratio f.sum) h.sum) s.congruent))
        where
          join : (P + P') - (S + S') - (P - S) ≡ P' - S'
          join = ring R[x] (P ∷ P' ∷ S ∷ S' ∷ []) (search quote depth 40 fits 9999) tt

      -- the factor between the two next Q is the inverse of that before
      pub next_same_Q : Associate K R' Q'
      next_same_Q = associate_cofactor K Q' R' h.κ (f.size +ₙ h.size) s.ratio h.deg (low_up K Q' (omega arith) f.low) (low_up K R' (omega arith) h.low) product
        where
          product : Q * Q' ≡ R * R'
          product = ring_from R[x] (Q ∷ Q' ∷ R ∷ R' ∷ P' ∷ S' ∷ D ∷ []) (plus R[x] (times R[x] (- 𝟙) f.norm) (plus R[x] (times R[x] 𝟙 h.norm) (times R[x] (- (P' + S')) next_same_P))) (search quote depth 40 fits 9999) tt

      pub next_same : SameIdeal Q' P' R' S'
      next_same = record { ratio = associate_sym K next_same_Q; congruent = divides_path K (sym gone) (divides_zero K R') }
        where
          gone : P' - S' ≡ 𝟘
          gone = ring_from R[x] (P' ∷ S' ∷ []) (times R[x] 𝟙 next_same_P) (search quote depth 40 fits 9999) tt
