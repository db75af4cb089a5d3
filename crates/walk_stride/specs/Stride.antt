-- One step of the walk of √D: where the walk stands after it, and whether its Q is constant.
use Rattle.std.specs.Prelude.{ℕ, suc, ◌<◌, ◌≡◌, List, length, get_or}
use Rattle.std.proofs.Common.{eq-or-lt_of_le, add-one, arith, sym, ap, ◌∙◌, subst, ⊎_elim}
use Rattle.spec_definitions.specs.Walk.{Q, degree_before}
use Rattle.spec_laws.specs.Admitted.{surd_of}
use Rattle.spec_laws.specs.Fraction.{Q_length}
use Rattle.spec_laws.specs.QuasiPeriod.{Quasi}
use Rattle.base_places.specs.Pad.{at_pad}
use Rattle.base_polynomial.specs.declared.Poly.{Poly}
use Rattle.walk_state.specs.declared.Walk.{Walk}
use Rattle.walk_state.specs.State.{State, state_next}
use Rattle.walk_state.specs.Walk.{name, ops, g, D, root}
use Rattle.walk_stride.specs.declared.Progress.{Progress}
use Rattle.walk_stride.specs.Progress.{Taken, Turned}
use Rattle.walk_stride.specs.Walked.{Walked, NoneTo, degree_next}

module _ (w : Walk) {before current : Poly} {rest : List ℕ} {at : Progress} (t : Walked w before current rest at) where
  module _ {remains : List ℕ} {after : Poly} {to : Progress} (u : Taken w before current rest remains after at to) where
    index_suc : to.index.0 ≡ suc at.index.0
    index_suc = u.index_is ∙ add-one at.index.0

    next : State (name w) (g w) (D w) to.index.0 current.c after.c remains after.size
    next =
        subst (λ (i : ℕ). State (name w) (g w) (D w) i current.c after.c remains after.size) (sym index_suc)
        (state_next w.root.surd.field.q (g w) (D w) w.root.surd.admitted w.root.twice w.root.twice_is at.index.0 before.c current.c rest current.size t.state remains after.c after.size u.stepped)

    -- where the walk stands after it
    pub stride_walked : Walked w current after remains to
    stride_walked = record { state = next; degree_is = u.degree_is ∙ degree_next w t ∙ ap (degree_before (ops w) (D w) (root w)) (sym index_suc) }

    -- the constant coefficient of Q
    pub stride_last : get_or after.c 0 0 ≡ get_or (Q (ops w) (D w) (root w) to.index.0) 0 0
    stride_last =
        ap (λ (l : List ℕ). get_or l 0 0) next.q_is ∙ at_pad (ops w) 129 _ (let m = Q_length (surd_of w.root.surd.admitted) to.index.0 in let n = w.root.surd.admitted.genus_most in omega arith) 0

    -- it is not constant
    pub stride_none : NoneTo w at → (after.size ≡ 1 → ⊥) → NoneTo w to
    stride_none none f j k l =
        let i = index_suc in
        ⊎_elim (λ s. λ o. f (next.size_is ∙ ap (λ (m : ℕ). length (Q (ops w) (D w) (root w) m)) (sym s) ∙ o)) (λ s. none j k (omega arith)) (eq-or-lt_of_le l)

    -- it is constant
    pub stride_found : (m : ℕ) → NoneTo w at → at.index.0 < m → after.size ≡ 1 → Quasi (ops w) (D w) (root w) m to.index.0
    stride_found m none l f =
        let i = index_suc in
        record { positive = omega arith; within = omega arith; constant = sym next.size_is ∙ f; least = λ j k o. none j k (omega arith) }

  -- the same in place
  pub turn_walked : {before' current' : Poly} {rest' : List ℕ} {to : Progress} → Turned w before current rest before' current' rest' at to → Walked w before' current' rest' to
  turn_walked {current' = y} {rest' = z} {to = to} u = subst (λ (x : Poly). Walked w x y z to) (sym u.moved) (stride_walked u.taken)
