-- Such steps with the product of 2/lc Q_j.
use Rattle.std.specs.Prelude.{ℕ, ◌*◌, ◌%◌, ◌≤◌, ◌<◌, ◌≡◌, List}
use Rattle.std.proofs.Common.{sym, ap, ◌∙◌, subst₂}
use Rattle.spec_definitions.specs.Ticket.{budgets}
use Rattle.base_polynomial.specs.declared.Poly.{Poly}
use Rattle.walk_state.specs.declared.Walk.{Walk}
use Rattle.walk_stride.specs.declared.Progress.{Progress}
use Rattle.walk_stride.specs.Progress.{Begun, Going, Taken}
use Rattle.walk_lead.specs.Kept.{Kept, Asks, largest_coefficient, largest_factor, two_factors, factor_of, kept_first, kept_reduced, factor_asks}
use Rattle.walk_lead.specs.Strides.{kept_stride}
use Rattle.bench_walk.specs.Steps.{degree_at, product_at}
use Rattle.bench_walk.specs.Advance.{Advancing, advancing_first, advancing_going, advancing_next, advanced}

-- `lead` stands for the product, within some bound
pub record Multiplying (w : Walk) (steps bound : ℕ) (before current : Poly) (rest : List ℕ) (at : Progress) (lead : ℕ) : Type 0 where
  pub advancing : Advancing w steps before current rest at
  pub kept : Kept w at.index.0 bound lead

-- so many steps are made
pub record Multiplied (w : Walk) (steps : ℕ) (at : Progress) (lead : ℕ) : Type 0 where
  pub degree_is : at.degree.0 ≡ degree_at w.root.surd steps
  pub product_is : lead % w.root.surd.field.q ≡ product_at w.root.surd steps

module _ (w : Walk) where
  pub multiplying_first : {before current : Poly} {rest : List ℕ} {at : Progress} (steps : ℕ) → Begun w before current rest at → Multiplying w steps largest_coefficient before current rest at 1
  multiplying_first steps b = record { advancing = advancing_first w steps b; kept = kept_first w _ b.index_is }

  module _ {steps bound lead : ℕ} {before current : Poly} {rest : List ℕ} {at : Progress} (t : Multiplying w steps bound before current rest at lead) where
    pub multiplying_reduced : Multiplying w steps largest_coefficient before current rest at (lead % w.root.surd.field.q)
    multiplying_reduced = record { advancing = t.advancing; kept = kept_reduced w t.kept }

    -- what the product with the next factor asks for
    pub multiplying_asks : bound ≤ two_factors → Asks w.inverses.now current lead
    multiplying_asks = factor_asks w t.advancing.walked.state t.kept

    pub multiplied : at.index.0 ≡ steps → Multiplied w steps at lead
    multiplied e = record { degree_is = advanced w t.advancing e; product_is = t.kept.is ∙ ap (product_at w.root.surd) e }

    module _ (left : at.index.0 ≡ steps → ⊥) where
      pub multiplying_going : steps < budgets → Going w before current rest at
      multiplying_going = advancing_going w t.advancing left

      pub multiplying_next : {remains : List ℕ} {after : Poly} {to : Progress} {r : ℕ} → Taken w before current rest remains after at to → r ≡ lead * factor_of w.inverses.now current → Multiplying w steps (bound * largest_factor) current after remains to r
      multiplying_next u m = record { advancing = advancing_next w t.advancing left u; kept = kept_stride w t.advancing.walked u t.kept m }

-- where the ways out of the loop meet
pub multiplied_at : {w : Walk} {steps lead n : ℕ} {at to : Progress} → at ≡ to → lead ≡ n → Multiplied w steps to n → Multiplied w steps at lead
multiplied_at {w} {steps} e o m = subst₂ (Multiplied w steps) (sym e) (sym o) m
