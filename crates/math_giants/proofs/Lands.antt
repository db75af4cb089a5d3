-- The proofs of specs/Lands.
use Rattle.std.specs.Prelude.{ℕ, zero, suc, ◌+◌ as ◌+ₙ◌, ◌-◌ as ◌-ₙ◌, ◌≤◌, ◌≡◌}
use Rattle.std.proofs.Common.{arith, sym, ◌∙◌, subst, ⊎_elim}
use Rattle.math_ring.specs.Order.{le_or_lt}
use Rattle.math_ring.specs.Series.{Series}
use Rattle.math_algebra.specs.Field.{Field}
use Rattle.math_algebra.specs.Polynomial.{F, Px, Deg, deg_unique, monic_deg}
use Rattle.math_algebra.specs.Divides.{divides_constant}
use Rattle.math_algebra.specs.Associate.{Associate, associate_sym, associate_trans, associate_path, associate_deg, associate_scale, divides_associate}
use Rattle.math_surd.specs.Root.{Root}
use Rattle.math_surd.specs.Step.{State}
use Rattle.math_surd.specs.Big.{Big}
use Rattle.math_surd.proofs.Big.{big_deg}
use Rattle.math_surd.specs.Walk.{Walk, κ_first}
use Rattle.math_surd.specs.Convergents as convergents
use Rattle.math_surd.specs.Distance.{distance, height, convergent_big}
use Rattle.math_surd.proofs.Distance.{distance_height}
use Rattle.math_surd.specs.Ideal.{SameIdeal}
use Rattle.math_surd.proofs.Ideal.{same_trans}
use Rattle.math_ideals.specs.Reduction.{next_state}
use Rattle.math_ideals.specs.Steps.{sum_of_degrees}
use Rattle.math_ideals.proofs.Steps.{shift_form}
use Rattle.math_generators.specs.Generators.{Generates}
use Rattle.math_generators.proofs.Generators.{generates_same, convergent_generates, s_finite}
use Rattle.math_generators.specs.Classification.{Located}
use Rattle.math_generators.proofs.Classification.{classify}
use Rattle.math_generators.specs.GeneratorProduct.{Multiplied}
use Rattle.math_generators.proofs.GeneratorProduct.{multiplied}
use Rattle.math_generators.specs.GeneratorSteps.{Reached}
use Rattle.math_generators.proofs.GeneratorSteps.{reached}
use Rattle.math_giants.proofs.Exists.{walk_no_square}
use Rattle.math_giants.specs.GiantStep.{GiantStep, giant_Q, giant_P, drop, start_state, giant_swap}
use Rattle.math_giants.proofs.GiantStep.{drop_sum}
use Rattle.math_giants.specs.Lands as defs

module _ {A : Type 0} (K : Field A) {g : ℕ} {D : Px K} {o : Root K g D} (w : Walk K o) where
  abbrev P[x] : Type 0
  P[x] = Px K

  abbrev Landed : {Q₁ P₁ Q₂ P₂ : P[x]} → (G : GiantStep K o Q₁ P₁ Q₂ P₂) → (δ₁ δ₂ : ℕ) → Type 0
  Landed = defs.Landed K w

  abbrev Lands : P[x] → P[x] → P[x] → P[x] → Type 0
  Lands = defs.Lands K w

  -- ---- the proof
  abbrev p : ℕ → P[x]
  p = convergents.p K w

  abbrev s : ℕ → P[x]
  s = convergents.s K w

  -- a reduced ideal of the steps with a big generator
  located : {Q₁ P₁ Q₂ P₂ : P[x]} (G : GiantStep K o Q₁ P₁ Q₂ P₂) (k : ℕ) → G.steps.κ k ≤ g → {x y : P[x]} → Generates K D x y (G.steps.Q k) (G.steps.P k) → Big K o x y → Located K w x (G.steps.Q k) (G.steps.P k)
  located G zero l h b = classify K w (start_state K G) (let e = deg_unique K (start_state K G).deg (G.steps.deg 0) in omega arith) h b
  located G (suc k) l h b = classify K w st (let e = deg_unique K st.deg (G.steps.deg (suc k)) in omega arith) h b
    where
      st : State K D (G.steps.Q (suc k)) (G.steps.Q k) (G.steps.P (suc k))
      st = next_state K (G.steps.follows k) (walk_no_square K w)

  -- ---- both past the first ideal
  module _ {Q₁ P₁ Q₂ P₂ : P[x]} (G : GiantStep K o Q₁ P₁ Q₂ P₂) (i j : ℕ) (h₁ : SameIdeal K Q₁ P₁ (w.Q (suc i)) (w.P (suc i))) (h₂ : SameIdeal K Q₂ P₂ (w.Q (suc j)) (w.P (suc j))) where
    generated : Multiplied K o G.common (G.steps.P 0) (p (suc (suc i))) (s (suc (suc i))) (p (suc (suc j))) (s (suc (suc j)))
    generated = multiplied K o G.common G.meets G.start_finite (generates_same K (s_finite K w (suc (suc i))) h₁ (convergent_generates K w (suc i))) (s_finite K w (suc (suc i))) (generates_same K (s_finite K w (suc (suc j))) h₂ (convergent_generates K w (suc j))) (s_finite K w (suc (suc j)))

    later : Landed G (distance K w (suc i)) (distance K w (suc j))
    later = go generated
      where
        go : Multiplied K o G.common (G.steps.P 0) (p (suc (suc i))) (s (suc (suc i))) (p (suc (suc j))) (s (suc (suc j))) → Landed G (distance K w (suc i)) (distance K w (suc j))
        go m = ending (reached K G.steps m.x_finite m.y_finite (subst (λ (q : P[x]). Generates K D m.x m.y q (G.steps.P 0)) (sym G.start) m.generates) b.0 G.turns)
          where
            b : (b : Big K o m.x m.y) × (b.height +ₙ G.common.σ ≡ suc g +ₙ (height K w i +ₙ height K w j))
            b = m.big (convergent_big K w i) (convergent_big K w j)

            ending : Reached K G.steps b.0.height G.turns → Landed G (distance K w (suc i)) (distance K w (suc j))
            ending r = record {
              at = suc l.at;
              same = l.same;
              distance_is =
                  let e₁ : distance K w (suc l.at) ≡ suc g +ₙ r.big.height = deg_unique K l.x_deg (big_deg K o r.x r.y r.big) in
                  let e₂ = r.height_is in
                  let e₃ = b.1 in
                  let e₄ = distance_height K w i in
                  let e₅ = distance_height K w j in
                  let e₆ = shift_form K G.steps G.turns in
                  let e₇ = drop_sum K G in
                  omega arith;
            }
              where
                l : Located K w r.x (giant_Q K G) (giant_P K G)
                l = located G G.turns G.reduced r.generates r.big

  -- ---- one of them the first ideal
  module _ {Q₁ P₁ Q₂ P₂ : P[x]} (G : GiantStep K o Q₁ P₁ Q₂ P₂) (j : ℕ) (h₁ : SameIdeal K Q₁ P₁ (w.Q 0) (w.P 0)) (h₂ : SameIdeal K Q₂ P₂ (w.Q j) (w.P j)) where
    Q₁_constant : Deg K Q₁ 0
    Q₁_constant = associate_deg K h₁.ratio (subst (Deg K (w.Q 0)) (κ_first K w) (w.Q_deg 0))

    S_constant : Deg K G.S 0
    S_constant = divides_constant K _ G.common.monic.low G.common.first Q₁_constant

    q₁_constant : Deg K G.common.first.by 0
    q₁_constant = divides_constant K G.common.first.size G.common.first.low (record { by = G.S; size = _; low = G.common.monic.low; is = G.common.first.is ∙ (Series (F K)).mul_comm G.S G.common.first.by }) Q₁_constant

    start_same : SameIdeal K (G.steps.Q 0) (G.steps.P 0) Q₂ P₂
    start_same = record { ratio = associate_trans K (associate_path K G.start) (associate_trans K (associate_scale K _ _ q₁_constant) second); congruent = divides_associate K second G.meets.second }
      where
        second : Associate K G.common.second.by Q₂
        second = associate_sym K (associate_trans K (associate_path K G.common.second.is) (associate_scale K _ _ S_constant))

    -- it is reduced already, so that there are no steps
    start_reduced : G.steps.κ 0 ≤ g
    start_reduced = let e = deg_unique K (G.steps.deg 0) (associate_deg K (same_trans K start_same h₂).ratio (w.Q_deg j)) in let l = w.reduced j in omega arith

    no_turns : 0 ≡ G.turns
    no_turns = ⊎_elim (λ l. absurd (let a = G.above 0 l in let b = start_reduced in omega arith)) (λ l. omega arith) (le_or_lt 1 G.turns)

    first : Landed G 0 (distance K w j)
    first = record {
      at = j;
      same = subst (λ (k : ℕ). SameIdeal K (G.steps.Q k) (G.steps.P k) (w.Q j) (w.P j)) no_turns (same_trans K start_same h₂);
      distance_is = let e = none in omega arith;
    }
      where
        none : drop K G ≡ 0
        none = subst (λ (k : ℕ). (G.steps.κ 0 +ₙ G.common.σ) -ₙ (G.steps.κ k +ₙ sum_of_degrees K G.steps k) ≡ 0) no_turns (let e = deg_unique K (monic_deg K G.common.monic) S_constant in omega arith)

  -- ---- any two
  pub lands : {Q₁ P₁ Q₂ P₂ : P[x]} → Lands Q₁ P₁ Q₂ P₂
  lands G zero j h₁ h₂ = first G j h₁ h₂
  lands G (suc i) zero h₁ h₂ = turn (first (giant_swap K G) (suc i) h₂ h₁)
    where
      turn : Landed (giant_swap K G) 0 (distance K w (suc i)) → Landed G (distance K w (suc i)) 0
      turn l = record { at = l.at; same = l.same; distance_is = let e = l.distance_is in omega arith }
  lands G (suc i) (suc j) h₁ h₂ = later G i j h₁ h₂
