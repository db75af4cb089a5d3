-- The answer of the call `giant_step`, case by case, and what its polynomials are.
use Prim.Native.Nat.{ℕ, zero, suc, ◌+◌, ◌≤◌}
use Rattle.std.proofs.Common.{arith, sym, ◌∙◌, subst, ltb-false}
use Rattle.std.specs.Prelude.{◌≡◌, refl, Bool, true, false, ◌||◌, List, [], Result, Ok, Err, IfOk, IfErr, ltb, ◌+ℤ◌}
use Rattle.std.proofs.Math.Path.{ap, ap₂}
use Rattle.std.proofs.Math.IntN.{pos}
use Rattle.std.specs.Result.{IsErrAnd}
use Rattle.spec_definitions.specs.Ticket.{Ticket, genus, ticket_of}
use Rattle.spec_definitions.specs.Walk.{Ideal as Pair, steps}
use Rattle.spec_definitions.specs.Answers.{ops_of, root_of}
use Rattle.spec_definitions.specs.Listing.{ideal_of}
use Rattle.spec_definitions.specs.Products.{Product, GiantStepAnswer as Answer, product_of, turns_of, shift_of, wrong_pair, wrong_distance, giant_done, giant_refused, giant_answer}
use Rattle.base_refusals.specs.declared.Refusal.{Refusal}
use Rattle.base_refusals.specs.Number.{number_of, refused_by, number_some}
use Rattle.base_polynomial.specs.Over.{Holds, holds}
use Rattle.base_surd.specs.Surd.{ticket_with}
use Rattle.base_ideal.specs.declared.Ideal.{Ideal}
use Rattle.ideal_pair.specs.Words.{pairs_right, paired_product}
use Rattle.ideal_giant.specs.declared.Shift.{Shift}
use Rattle.ideal_giant.specs.Signed.{farthest}
use Rattle.ideal_giant.specs.Stepped.{Stepped}
use Rattle.call_product.specs.declared.operands.Operands.{Operands}
use Rattle.call_product.specs.Operands.{operands_refusal, answer_refused, AreRead}
use Rattle.call_giant_step.specs.declared.GiantStep.{GiantStep}

-- Q, P, f and the distance are those of the answer a
pub record GiantStepIs (t : GiantStep) (a : Answer) : Type 0 where
  pub q_is : Holds t.ideal.q a.q
  pub p_is : Holds t.ideal.p a.p
  pub f_is : t.shift.f ≡ a.f
  pub distance_is : t.shift.distance ≡ a.distance

-- the number is that of the answer a, and so is the giant step where there is no refusal; in a refusal a has zeros
pub record GiantStepSays (r : Result GiantStep Refusal) (a : Answer) : Type 0 where
  pub number_is : refused_by r ≡ a.number
  pub giant_step_is : IfOk r (λ t. GiantStepIs t a)
  pub zeros : IfErr r (λ _. (a.q ≡ []) × (a.p ≡ []) × (a.f ≡ pos 0) × (a.distance ≡ pos 0))

says_path : {r : Result GiantStep Refusal} {a b : Answer} → a ≡ b → GiantStepSays r b → GiantStepSays r a
says_path {r} e h = subst (GiantStepSays r) (sym e) h

refused_says : {r : Refusal} {k : ℕ} → number_of r ≡ k → GiantStepSays (Err r) (giant_refused k)
unfolding giant_refused
refused_says e = record { number_is = e; giant_step_is = tt; zeros = (refl, refl, refl, refl) }

-- a refusal that is passed on
pub passed_on : {r : Result GiantStep Refusal} {e : Refusal} {a : Answer} → IsErrAnd r (λ k. k ≡ e) → GiantStepSays (Err e) a → GiantStepSays r a
passed_on {r = Ok t} h s = absurd h
passed_on {r = Err k} {a = a} h s = subst (λ (i : Refusal). GiantStepSays (Err i) a) (sym h) s

-- neither distance is far
pub both_near : (d e : ℕ) → wrong_distance d e ≡ false → (d ≤ farthest) × (e ≤ farthest)
unfolding wrong_distance
both_near d e h = go (ltb farthest d) (ltb farthest e) refl refl h
  where
    go : (a b : Bool) → ltb farthest d ≡ a → ltb farthest e ≡ b → (a || b) ≡ false → (d ≤ farthest) × (e ≤ farthest)
    go false false i j k = (ltb-false farthest d i, ltb-false farthest e j)
    go false true i j k = absurd (let z : ◌≡◌ {A = ℕ} 0 1 = cc in omega arith)
    go true b i j k = absurd (let z : ◌≡◌ {A = ℕ} 0 1 = cc in omega arith)

-- the same giant step, from pairs with the same product
giant_same : (t : Ticket) (x y x' y' : Pair ℕ) → product_of (ops_of t) t.D x y ≡ product_of (ops_of t) t.D x' y' → (d e : ℕ) → giant_done t x d y e ≡ giant_done t x' d y' e
unfolding giant_done
giant_same t x y x' y' same d e = ap (λ (r : Product ℕ). record {
  number = 0;
  q = (ideal_of (ops_of t) (steps (ops_of t) t.D (root_of t) r.ideal (turns_of (ops_of t) t.D (root_of t) (genus t.n) r.ideal))).q;
  p = (ideal_of (ops_of t) (steps (ops_of t) t.D (root_of t) r.ideal (turns_of (ops_of t) t.D (root_of t) (genus t.n) r.ideal))).p;
  f = shift_of (ops_of t) t.D (root_of t) (genus t.n) r;
  distance = pos (d + e) +ℤ shift_of (ops_of t) t.D (root_of t) (genus t.n) r;
}) same

-- ---- the answers
module _ (w : List ℕ) (x : Pair ℕ) (d : ℕ) (y : Pair ℕ) (e : ℕ) where
  -- for two pairs that are not refused
  abbrev by_distances : Ticket → Bool → Answer
  by_distances t far = elim far as (λ _. Answer) [ true ↦ giant_refused 10 | false ↦ giant_done t x d y e ]

  -- the ticket or a pair is refused
  pub refused : {r : Refusal} → number_of r ≡ operands_refusal w x y → GiantStepSays (Err r) (giant_answer w x d y e)
  unfolding giant_answer
  refused {r} h =
      says_path (answer_refused w x y Answer giant_refused (by_distances (ticket_of w) (wrong_distance d e)) (let o = number_some r in omega arith)) (refused_says h)

  module _ {o : Operands} (t : AreRead w x y o) where
    tested : giant_answer w x d y e ≡ by_distances (ticket_with o.surd t.budget) (wrong_distance d e)
    unfolding giant_answer
    tested =
        ap₂ (λ (n : ℕ) (t : Ticket). elim n as (λ _. Answer) [ zero ↦ elim (wrong_pair t x y) as (λ _. Answer) [ true ↦ giant_refused 9 | false ↦ by_distances t (wrong_distance d e) ] | suc k ↦ giant_refused (suc k) ]) t.passes t.is
        ∙ ap (λ (b : Bool). elim b as (λ _. Answer) [ true ↦ giant_refused 9 | false ↦ by_distances (ticket_with o.surd t.budget) (wrong_distance d e) ]) (pairs_right t.first t.second t.budget)

    pub far_refused : {r : Refusal} → wrong_distance d e ≡ true → number_of r ≡ 10 → GiantStepSays (Err r) (giant_answer w x d y e)
    far_refused h k = says_path (tested ∙ ap (by_distances (ticket_with o.surd t.budget)) h) (refused_says k)

    -- the giant step, which depends on the pairs' polynomials alone
    done : {z : Ideal} {to : Shift} → Stepped o.surd o.x d o.y e z to → GiantStepSays (Ok (record { ideal = z; shift = to })) (giant_done (ticket_with o.surd t.budget) x d y e)
    unfolding giant_done
    done {z} m =
        let b = t.budget in
        says_path (giant_same (ticket_with o.surd b) x y _ _ (sym (paired_product t.first t.second)) d e)
        (record { number_is = refl; giant_step_is = record { q_is = holds {a = z.q} (m.q_is b); p_is = holds {a = z.p} (m.p_is b); f_is = m.f_is b; distance_is = m.distance_is b }; zeros = tt })

    pub stepped : wrong_distance d e ≡ false → {z : Ideal} {to : Shift} → Stepped o.surd o.x d o.y e z to → GiantStepSays (Ok (record { ideal = z; shift = to })) (giant_answer w x d y e)
    stepped near m = says_path (tested ∙ ap (by_distances (ticket_with o.surd t.budget)) near) (done m)
