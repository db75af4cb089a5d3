-- The steps of half the walk: where it stands between them, that no test holds before, and the outcome by the
-- test that ends them.
use Rattle.std.specs.Prelude.{ℕ, zero, suc, ◌+◌, ◌*◌, ◌-◌, ◌≤◌, ◌<◌, ◌≡◌, refl, true, false, None, Some, List, length}
use Rattle.std.proofs.Common.{eq-or-lt_of_le, add-one, arith, sym, ap, ap₂, ◌∙◌, subst, ⊎_elim}
use Rattle.spec_arithmetic.specs.Polynomials.{pad}
use Rattle.spec_definitions.specs.Ticket.{budgets}
use Rattle.spec_definitions.specs.Walk.{Q, degree_before}
use Rattle.spec_laws.specs.Admitted.{surd_of}
use Rattle.spec_laws.specs.Convergents.{degree_least}
use Rattle.spec_laws.specs.Surd.{Q_zero}
use Rattle.spec_laws.specs.Walk.{deg_Q}
use Rattle.spec_laws.specs.State.{before, left, before_zero, before_suc}
use Rattle.spec_half.specs.Half.{middle_q?, middle_p?, half_found, half_spent, half_of}
use Rattle.spec_half.specs.Computed.{NoTestHolds}
use Rattle.spec_half.proofs.Computed.{remainders_P, not_remainders_P, first_remainders, cross_Q, not_cross_Q, half_by_Q, half_by_P, half_none}
use Rattle.base_surd.specs.Surd.{ticket_with}
use Rattle.base_polynomial.specs.declared.Poly.{Poly}
use Rattle.walk_state.specs.declared.Walk.{Walk}
use Rattle.walk_state.specs.Walk.{name, ops, g, D, root, top}
use Rattle.walk_stride.specs.declared.Progress.{Progress}
use Rattle.walk_stride.specs.Progress.{Begun, Going, Taken}
use Rattle.walk_stride.specs.Walked.{Walked, walked_first, size_most, going}
use Rattle.walk_stride.specs.Stride.{stride_walked}
use Rattle.walk_middle.specs.declared.Stop.{Stop}
use Rattle.walk_middle.specs.declared.Stop.TheVariants.{ByQ, ByP, Budget}
use Rattle.walk_middle.specs.Middle.{Tested, MultipleQ, Stops}
use Rattle.walk_middle.specs.Strided.{Earlier, earlier_first, earlier_next, strided_tested}
use Rattle.walk_half.specs.Outcome.{end_of, InRange}
use Rattle.walk_half.specs.Arrays.{InArray, remainders_same, cross_of, cross_multiple}

-- the walk stands at an index within the budget, and the Q before has its size; no test holds at an index two or more
-- below: the tests at the index just below come after the next step
pub record Searching (walk : Walk) (budget : ℕ) (previous current : Poly) (rest : List ℕ) (at : Progress) : Type 0 where
  pub walked : Walked walk previous current rest at
  pub earlier_is : Earlier walk previous at
  pub none : NoTestHolds (name walk) (g walk) (D walk) (at.index.0 - 1)
  pub reached : at.index.0 ≤ budget

-- the walk is at `at` and Q has `size` places, and the outcome by the test that ended it is that of the ticket
pub record Ended (walk : Walk) (budget size : ℕ) (at : Progress) (by : Stop) : Type 0 where
  pub range : InRange (top walk) size at (Some by)
  pub outcome : end_of (top walk) size at (Some by) ≡ half_of (ticket_with walk.root.surd budget)

pub searching_first : (walk : Walk) {previous current : Poly} {rest : List ℕ} {at : Progress} (budget : ℕ) → Begun walk previous current rest at → Searching walk budget previous current rest at
searching_first walk budget b =
    let e = b.index_is in
    record {
      walked = walked_first walk b;
      earlier_is = earlier_first walk b;
      none = record { no_Q = λ j s. absurd (omega arith); no_P = λ j s. absurd (omega arith) };
      reached = omega arith;
    }

module _ (walk : Walk) {budget : ℕ} (few : budget < budgets) {previous current : Poly} {rest : List ℕ} {at : Progress} (t : Searching walk budget previous current rest at) where
  -- what the next step asks for
  pub searching_going : Going walk previous current rest at
  searching_going = going walk t.walked (let r = t.reached in omega arith)

  -- ---- Q and the Q before it, where there is one
  module _ (j : ℕ) (w : at.index.0 ≡ suc j) where
    earlier_in : InArray (name walk) (g walk) (D walk) j previous.c previous.size
    earlier_in =
        let k : before (ops walk) (D walk) (root walk) at.index.0 ≡ Q (ops walk) (D walk) (root walk) j = ap (before (ops walk) (D walk) (root walk)) w ∙ before_suc (surd_of walk.root.surd.admitted) j in
        record { places = t.walked.state.before_is ∙ ap (pad (ops walk) 129) k; size_is = t.earlier_is ∙ ap length k }

    current_in : InArray (name walk) (g walk) (D walk) (suc j) current.c current.size
    current_in =
        let k : Q (ops walk) (D walk) (root walk) at.index.0 ≡ Q (ops walk) (D walk) (root walk) (suc j) = ap (Q (ops walk) (D walk) (root walk)) w in
        record { places = t.walked.state.q_is ∙ ap (pad (ops walk) 129) k; size_is = t.walked.state.size_is ∙ ap length k }

    degree_here : at.degree.0 ≡ degree_before (ops walk) (D walk) (root walk) (suc j)
    degree_here = t.walked.degree_is ∙ ap (degree_before (ops walk) (D walk) (root walk)) w

    earlier_none : NoTestHolds (name walk) (g walk) (D walk) j
    earlier_none = subst (NoTestHolds (name walk) (g walk) (D walk)) (let o : at.index.0 - 1 ≡ j = omega arith in o) t.none

    -- the test of Q, from the arrays
    holds_Q : MultipleQ walk previous current → middle_q? (ops walk) (D walk) (root walk) j ≡ true
    holds_Q m = cross_Q walk.root.surd.admitted j (cross_of walk.root.surd.admitted earlier_in current_in m.0 m.1)

    fails_Q : ¬ MultipleQ walk previous current → middle_q? (ops walk) (D walk) (root walk) j ≡ false
    fails_Q f = not_cross_Q walk.root.surd.admitted j (λ c. f (cross_multiple walk.root.surd.admitted earlier_in current_in c))

  -- D is longer than Q_0 = 1
  first_apart : at.index.0 ≡ 0 → ¬ MultipleQ walk previous current
  first_apart w m =
      let k : previous.size ≡ length (D walk) = t.earlier_is ∙ ap (λ (i : ℕ). length (before (ops walk) (D walk) (root walk) i)) w ∙ ap length (before_zero (surd_of walk.root.surd.admitted)) in
      let l : current.size ≡ 1 = t.walked.state.size_is ∙ ap (λ (i : ℕ). length (Q (ops walk) (D walk) (root walk) i)) w ∙ ap length (Q_zero (surd_of walk.root.surd.admitted)) in
      omega (arith, walk.root.surd.admitted.size_D, m.0)

  module _ {remains : List ℕ} {after : Poly} {to : Progress} (u : Taken walk previous current rest remains after at to) where
    next : Walked walk current after remains to
    next = stride_walked walk t.walked u

    index_suc : to.index.0 ≡ suc at.index.0
    index_suc = u.index_is ∙ add-one at.index.0

    -- what the tests ask for
    pub searching_tested : Tested walk previous current rest remains
    searching_tested = strided_tested walk t.walked t.earlier_is next

    -- ---- the test of P, from the remainders
    remainders : rest ≡ remains → left (ops walk) (D walk) (root walk) at.index.0 ≡ left (ops walk) (D walk) (root walk) (suc at.index.0)
    remainders s = remainders_same walk.root.surd.admitted t.walked.state next.state s ∙ ap (left (ops walk) (D walk) (root walk)) index_suc

    arrays : left (ops walk) (D walk) (root walk) at.index.0 ≡ left (ops walk) (D walk) (root walk) (suc at.index.0) → rest ≡ remains
    arrays s = t.walked.state.left_is ∙ ap (pad (ops walk) 129) (s ∙ ap (left (ops walk) (D walk) (root walk)) (sym index_suc)) ∙ sym next.state.left_is

    fails_P : (j : ℕ) → at.index.0 ≡ suc j → ¬ (rest ≡ remains) → middle_p? (ops walk) (D walk) (root walk) j ≡ false
    fails_P j w f = not_remainders_P walk.root.surd.admitted j (λ s. f (arrays (subst (λ (i : ℕ). left (ops walk) (D walk) (root walk) i ≡ left (ops walk) (D walk) (root walk) (suc i)) (sym w) s)))

    -- neither holds: no test does at an index before that of `at`
    none_before : ¬ MultipleQ walk previous current → ¬ (rest ≡ remains) → NoTestHolds (name walk) (g walk) (D walk) at.index.0
    none_before apart differ = record {
      no_Q = λ j k. ⊎_elim (λ (o : suc j ≡ at.index.0). fails_Q j (sym o) apart) (λ o. t.none.no_Q j (omega arith)) (eq-or-lt_of_le k);
      no_P = λ j k. ⊎_elim (λ (o : suc j ≡ at.index.0). fails_P j (sym o) differ) (λ o. t.none.no_P j (omega arith)) (eq-or-lt_of_le k);
    }

    -- the walk goes on
    pub searching_next : Stops walk budget previous current rest remains at None → Searching walk budget current after remains to
    searching_next (apart, differ, unspent) =
        let i = index_suc in
        let r = t.reached in
        record {
          walked = next;
          earlier_is = earlier_next walk t.walked u;
          none = subst (NoTestHolds (name walk) (g walk) (D walk)) (let w : at.index.0 ≡ to.index.0 - 1 = omega arith in w) (none_before apart differ);
          reached = omega arith;
        }

    -- ---- the outcome
    -- deg Q ≤ 2·deg p where the walk stands, p the convergent before its index
    size_less : (i : ℕ) → at.index.0 ≡ i → current.size ≤ 2 * at.degree.0 + 1
    size_less zero w = let k : current.size ≡ 1 = t.walked.state.size_is ∙ ap (λ (i : ℕ). length (Q (ops walk) (D walk) (root walk) i)) w ∙ ap length (Q_zero (surd_of walk.root.surd.admitted)) in omega arith
    size_less (suc i) w = let k = degree_here i w in let l = degree_least (surd_of walk.root.surd.admitted) i in let m = size_most walk t.walked in omega arith

    -- g + 1 ≤ 2·deg p_i where its index is i + 1
    top_less : (i : ℕ) → at.index.0 ≡ suc i → top walk ≤ 2 * at.degree.0 + 1
    top_less i w = let k = degree_here i w in let l = degree_least (surd_of walk.root.surd.admitted) i in omega arith

    -- nothing overflows in it
    range : (by : Stop) → Stops walk budget previous current rest remains at (Some by) → InRange (top walk) current.size at (Some by)
    range by s =
        let k = searching_going in
        record {
          top_some = omega arith;
          size_some = k.some;
          index_few = k.few;
          degree_fits = k.degree_fits;
          size_less = size_less at.index.0 refl;
          index_some = λ o. some at.index.0 refl (subst (Stops walk budget previous current rest remains at) o s);
          top_less = λ o. less at.index.0 refl (subst (Stops walk budget previous current rest remains at) o s);
        }
      where
        some : (i : ℕ) → at.index.0 ≡ i → MultipleQ walk previous current → 0 < at.index.0
        some zero w m = absurd (first_apart w m)
        some (suc i) w m = omega arith

        less : (i : ℕ) → at.index.0 ≡ i → MultipleQ walk previous current → top walk ≤ 2 * at.degree.0 + 1
        less zero w m = absurd (first_apart w m)
        less (suc i) w m = top_less i w

    -- by the test of Q, at the index before that of `at`; that of `at` is not 0
    ended_Q : MultipleQ walk previous current → end_of (top walk) current.size at (Some ByQ) ≡ half_of (ticket_with walk.root.surd budget)
    ended_Q m = go at.index.0 refl
      where
        go : (i : ℕ) → at.index.0 ≡ i → end_of (top walk) current.size at (Some ByQ) ≡ half_of (ticket_with walk.root.surd budget)
        go zero w = absurd (first_apart w m)
        go (suc j) w =
            let r = t.reached in
            let k = degree_here j w in
            let f = top_less j w in
            let i : 2 * at.index.0 - 1 ≡ 2 * j + 1 = omega arith in
            ap (half_found (2 * at.degree.0 - (top walk - 1))) i
            ∙ sym (half_by_Q walk.root.surd.n walk.root.surd.admitted budget j (2 * at.degree.0 - (top walk - 1)) (omega arith) (earlier_none j w) (holds_Q j w m) (omega arith))

    -- by that of P, at the same index
    ended_P : ¬ MultipleQ walk previous current → rest ≡ remains → end_of (top walk) current.size at (Some ByP) ≡ half_of (ticket_with walk.root.surd budget)
    ended_P apart s = go at.index.0 refl (remainders s)
      where
        go : (i : ℕ) → at.index.0 ≡ i → left (ops walk) (D walk) (root walk) at.index.0 ≡ left (ops walk) (D walk) (root walk) (suc at.index.0) → end_of (top walk) current.size at (Some ByP) ≡ half_of (ticket_with walk.root.surd budget)
        go zero w s = absurd (first_remainders walk.root.surd.admitted (subst (λ (i : ℕ). left (ops walk) (D walk) (root walk) i ≡ left (ops walk) (D walk) (root walk) (suc i)) w s))
        go (suc j) w s =
            let r = t.reached in
            let k = degree_here j w in
            let l = (current_in j w).size_is in
            let m = deg_Q (surd_of walk.root.surd.admitted) (suc j) in
            let f = size_less (suc j) w in
            let i : 2 * at.index.0 ≡ 2 * j + 2 = omega arith in
            let same = subst (λ (i : ℕ). left (ops walk) (D walk) (root walk) i ≡ left (ops walk) (D walk) (root walk) (suc i)) w s in
            ap (half_found (2 * at.degree.0 - (current.size - 1))) i
            ∙ sym (half_by_P walk.root.surd.n walk.root.surd.admitted budget j (2 * at.degree.0 - (current.size - 1)) (omega arith) (earlier_none j w) (fails_Q j w apart) (remainders_P walk.root.surd.admitted j same) (omega arith))

    -- no test holds before the budget
    ended_budget : NoTestHolds (name walk) (g walk) (D walk) at.index.0 → at.index.0 ≡ budget → end_of (top walk) current.size at (Some Budget) ≡ half_of (ticket_with walk.root.surd budget)
    ended_budget none b = ap₂ half_spent b (t.walked.degree_is ∙ ap (degree_before (ops walk) (D walk) (root walk)) b) ∙ sym (half_none walk.root.surd.n walk.root.surd.admitted budget (subst (NoTestHolds (name walk) (g walk) (D walk)) b none))

    ended : (by : Stop) → Stops walk budget previous current rest remains at (Some by) → end_of (top walk) current.size at (Some by) ≡ half_of (ticket_with walk.root.surd budget)
    ended ByQ s = ended_Q s
    ended ByP s = ended_P s.0 s.1
    ended Budget s = ended_budget (none_before s.0 s.1) s.2

    pub searching_ended : {by : Stop} → Stops walk budget previous current rest remains at (Some by) → Ended walk budget current.size at by
    searching_ended {by} s = record { range = range by s; outcome = ended by s }

-- the same under the names that the ways out of the loop have where they meet
pub ended_at : {walk : Walk} {budget size : ℕ} {at at' : Progress} {by : Stop} {left : Stop × ℕ} → at ≡ at' → left ≡ (by, size) → Ended walk budget size at' by → Ended walk budget left.1 at left.0
ended_at {walk} {budget} {at' = at'} {left = left} a b r = subst (λ (z : Progress). Ended walk budget left.1 z left.0) (sym a) (subst (λ (l : Stop × ℕ). Ended walk budget l.1 at' l.0) (sym b) r)
