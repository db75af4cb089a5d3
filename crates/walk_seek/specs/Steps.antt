-- The steps of a run: where the walk stands between them, that no Q on the way is constant, and the outcome
-- where the budget is spent or a constant Q is met.
use Rattle.std.specs.Prelude.{ℕ, ◌*◌, ◌%◌, ◌≤◌, ◌<◌, ◌≡◌, List, get_or}
use Rattle.std.proofs.Common.{arith, sym, ap, ap₂, ◌∙◌, subst, subst₂}
use Rattle.spec_definitions.specs.Ticket.{budgets}
use Rattle.spec_definitions.specs.Walk.{Q, degree_before}
use Rattle.spec_definitions.specs.Answers.{found, spent, outcome_of}
use Rattle.spec_laws.specs.Admitted.{surd_of}
use Rattle.spec_laws.specs.Surd.{Q_oks}
use Rattle.spec_laws.specs.QuasiPeriod.{Quasi}
use Rattle.base_polynomial.specs.declared.Poly.{Poly}
use Rattle.base_surd.specs.Surd.{ticket_with}
use Rattle.walk_state.specs.declared.Walk.{Walk}
use Rattle.walk_state.specs.Walk.{name, ops, D, root}
use Rattle.walk_stride.specs.declared.Progress.{Progress}
use Rattle.walk_stride.specs.Progress.{Begun, Going, Taken}
use Rattle.walk_stride.specs.Walked.{Walked, NoneTo, walked_first, none_first, going}
use Rattle.walk_stride.specs.Stride.{stride_walked, stride_last, stride_none, stride_found}
use Rattle.walk_lead.specs.Kept.{Kept, Asks, largest_coefficient, largest_factor, two_factors, factor_of, kept_first, kept_reduced, factor_asks}
use Rattle.walk_lead.specs.Strides.{kept_stride}
use Rattle.walk_ends.specs.Constant.{monic_constant, found_is, spent_is}

-- the walk stands at an index within the budget, no Q of an index from 1 on was constant, and `lead` stands for the
-- product of 2/lc Q_j, within some bound
pub record Seeking (w : Walk) (budget bound : ℕ) (before current : Poly) (rest : List ℕ) (at : Progress) (lead : ℕ) : Type 0 where
  pub walked : Walked w before current rest at
  pub none : NoneTo w at
  pub reached : at.index.0 ≤ budget
  pub kept : Kept w at.index.0 bound lead

-- the walk stands at the first index from 1 on whose Q is constant, which is c, and `lead` stands for the product
pub record Met (w : Walk) (budget : ℕ) (at : Progress) (c lead : ℕ) : Type 0 where
  pub quasi : Quasi (ops w) (D w) (root w) budget at.index.0
  pub degree_is : at.degree.0 ≡ degree_before (ops w) (D w) (root w) at.index.0
  pub last_is : c ≡ get_or (Q (ops w) (D w) (root w) at.index.0) 0 0
  pub bound : ℕ
  pub kept : Kept w at.index.0 bound lead

module _ (w : Walk) where
  pub seeking_first : {before current : Poly} {rest : List ℕ} {at : Progress} (budget : ℕ) → Begun w before current rest at → Seeking w budget largest_coefficient before current rest at 1
  seeking_first budget b = record { walked = walked_first w b; none = none_first w b; reached = (let e = b.index_is in omega arith); kept = kept_first w _ b.index_is }

  module _ {budget bound lead : ℕ} {before current : Poly} {rest : List ℕ} {at : Progress} (t : Seeking w budget bound before current rest at lead) where
    pub seeking_reduced : Seeking w budget largest_coefficient before current rest at (lead % w.root.surd.field.q)
    seeking_reduced = record { walked = t.walked; none = t.none; reached = t.reached; kept = kept_reduced w t.kept }

    -- what the product with the next factor asks for
    pub seeking_asks : bound ≤ two_factors → Asks w.inverses.now current lead
    seeking_asks = factor_asks w t.walked.state t.kept

    -- the budget is spent
    pub outcome_spent : at.index.0 ≡ budget → spent at.index.0 at.degree.0 ≡ outcome_of (ticket_with w.root.surd budget)
    outcome_spent e =
        subst (λ (j : ℕ). spent at.index.0 at.degree.0 ≡ outcome_of (ticket_with w.root.surd j)) e (ap (spent at.index.0) t.walked.degree_is ∙ sym (spent_is w.root.surd.field.q w.root.surd.n (D w) w.root.surd.admitted at.index.0 t.none))

    module _ (left : at.index.0 ≡ budget → ⊥) where
      less : at.index.0 < budget
      less = omega (arith, t.reached, left)

      -- what the next step asks for
      pub seeking_going : budget < budgets → Going w before current rest at
      seeking_going l = going w t.walked (let k = less in omega arith)

      module _ {remains : List ℕ} {after : Poly} {to : Progress} (u : Taken w before current rest remains after at to) {r : ℕ} (m : r ≡ lead * factor_of w.inverses.now current) where
        pub seeking_next : (after.size ≡ 1 → ⊥) → Seeking w budget (bound * largest_factor) current after remains to r
        seeking_next f = record { walked = stride_walked w t.walked u; none = stride_none w t.walked u t.none f; reached = (let i = u.index_is in let l = less in omega arith); kept = kept_stride w t.walked u t.kept m }

        pub seeking_met : after.size ≡ 1 → Met w budget to (get_or after.c 0 0) r
        seeking_met f =
            record {
              quasi = stride_found w t.walked u budget t.none less f;
              degree_is = (stride_walked w t.walked u).degree_is;
              last_is = stride_last w t.walked u;
              bound = bound * largest_factor;
              kept = kept_stride w t.walked u t.kept m;
            }

  module _ {budget c lead : ℕ} {at : Progress} (m : Met w budget at c lead) where
    pub met_reduced : Met w budget at c (lead % w.root.surd.field.q)
    met_reduced = record { quasi = m.quasi; degree_is = m.degree_is; last_is = m.last_is; bound = largest_coefficient; kept = kept_reduced w m.kept }

    pub last_reduced : c < w.root.surd.field.q
    last_reduced = subst (λ (v : ℕ). v < w.root.surd.field.q) (sym m.last_is) (Q_oks (surd_of w.root.surd.admitted) at.index.0 0)

    -- a constant Q is met, and `lead` stands for twice the leading coefficient of p_{m−1}
    pub outcome_found : found at.degree.0 at.index.0 (monic_constant (name w) at.index.0 c (lead % w.root.surd.field.q)) ≡ outcome_of (ticket_with w.root.surd budget)
    outcome_found =
        ap (λ (j : ℕ). found j at.index.0 (monic_constant (name w) at.index.0 c (lead % w.root.surd.field.q))) m.degree_is
        ∙ ap₂ (λ (j k : ℕ). found (degree_before (ops w) (D w) (root w) at.index.0) at.index.0 (monic_constant (name w) at.index.0 j k)) m.last_is m.kept.is
        ∙ sym (found_is w.root.surd.field.q w.root.surd.n (D w) w.root.surd.admitted budget at.index.0 m.quasi)

-- where the ways out of the loop meet
pub met_at : {w : Walk} {budget c d n lead : ℕ} {at to : Progress} → at ≡ to → lead ≡ n → c ≡ d → Met w budget to d n → Met w budget at c lead
met_at {w} {budget} {c} {lead = lead} {at = at} e o j m = subst (λ (p : Progress). Met w budget p c lead) (sym e) (subst₂ (Met w budget _) (sym j) (sym o) m)
