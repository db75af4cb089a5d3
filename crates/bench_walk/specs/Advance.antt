-- Steps past every constant Q: where the walk stands between them, within the number asked for.
use Rattle.std.specs.Prelude.{ℕ, ◌≤◌, ◌<◌, ◌≡◌, List}
use Rattle.std.proofs.Common.{arith, ap, ◌∙◌}
use Rattle.spec_definitions.specs.Ticket.{budgets}
use Rattle.base_polynomial.specs.declared.Poly.{Poly}
use Rattle.walk_state.specs.declared.Walk.{Walk}
use Rattle.walk_stride.specs.declared.Progress.{Progress}
use Rattle.walk_stride.specs.Progress.{Begun, Going, Taken}
use Rattle.walk_stride.specs.Walked.{Walked, walked_first, going}
use Rattle.walk_stride.specs.Stride.{stride_walked}
use Rattle.bench_walk.specs.Steps.{degree_at}

pub record Advancing (w : Walk) (steps : ℕ) (before current : Poly) (rest : List ℕ) (at : Progress) : Type 0 where
  pub walked : Walked w before current rest at
  pub reached : at.index.0 ≤ steps

module _ (w : Walk) where
  pub advancing_first : {before current : Poly} {rest : List ℕ} {at : Progress} (steps : ℕ) → Begun w before current rest at → Advancing w steps before current rest at
  advancing_first steps b = record { walked = walked_first w b; reached = (let e = b.index_is in omega arith) }

  module _ {steps : ℕ} {before current : Poly} {rest : List ℕ} {at : Progress} (t : Advancing w steps before current rest at) where
    -- so many steps are made
    pub advanced : at.index.0 ≡ steps → at.degree.0 ≡ degree_at w.root.surd steps
    advanced e = t.walked.degree_is ∙ ap (degree_at w.root.surd) e

    module _ (left : at.index.0 ≡ steps → ⊥) where
      less : at.index.0 < steps
      less = omega (arith, t.reached, left)

      -- what the next step asks for
      pub advancing_going : steps < budgets → Going w before current rest at
      advancing_going l = going w t.walked (let k = less in omega arith)

      pub advancing_next : {remains : List ℕ} {after : Poly} {to : Progress} → Taken w before current rest remains after at to → Advancing w steps current after remains to
      advancing_next u = record { walked = stride_walked w t.walked u; reached = (let i = u.index_is in let l = less in omega arith) }
