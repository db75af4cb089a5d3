-- What the tests of half the walk ask for, where the walk stands before and after a step: the size of the Q before, and the
-- arrays.
use Rattle.std.specs.Prelude.{ℕ, ◌≡◌, List, length}
use Rattle.std.proofs.Common.{add-one, arith, sym, ap, ◌∙◌, subst₂}
use Rattle.spec_laws.specs.Admitted.{surd_of}
use Rattle.spec_laws.specs.State.{before_zero, before_suc, before_oks, before_length, before as Q-before}
use Rattle.base_places.specs.Held.{length_poly}
use Rattle.base_places.specs.Pad.{length_pad}
use Rattle.base_places.specs.Places.{Within}
use Rattle.walk_step.specs.Step.{Ready}
use Rattle.base_polynomial.specs.declared.Poly.{Poly}
use Rattle.walk_state.specs.declared.Walk.{Walk}
use Rattle.walk_state.specs.State.{pad_within, state_ready}
use Rattle.walk_state.specs.Walk.{name, ops, g, D, root, top}
use Rattle.walk_stride.specs.declared.Progress.{Progress}
use Rattle.walk_stride.specs.Progress.{Begun, Taken}
use Rattle.walk_stride.specs.Walked.{Walked, size_some, size_most}
use Rattle.walk_middle.specs.Middle.{Tested}

-- the size of the Q before is that of its list
abbrev pub Earlier : Walk → Poly → Progress → Type 0
Earlier w before at = before.size ≡ length (Q-before (ops w) (D w) (root w) at.index.0)

module _ (w : Walk) where
  -- where the walk begins it is that of D
  pub earlier_first : {before current : Poly} {rest : List ℕ} {at : Progress} → Begun w before current rest at → Earlier w before at
  earlier_first b =
      ap (λ (p : Poly). p.size) b.before_is ∙ sym (ap (λ (i : ℕ). length (Q-before (ops w) (D w) (root w) i)) b.index_is ∙ ap length (before_zero (surd_of w.root.surd.admitted)) ∙ length_poly w.root.surd.field.q w.root.surd.radicand.c w.root.surd.radicand.size w.root.surd.held)

  -- after a step it is that of Q before the step
  pub earlier_next : {before current after : Poly} {rest remains : List ℕ} {at to : Progress} → Walked w before current rest at → Taken w before current rest remains after at to → Earlier w current to
  earlier_next {at = at} t u =
      t.state.size_is ∙ ap length (sym (before_suc (surd_of w.root.surd.admitted) at.index.0)) ∙ ap (λ (k : ℕ). length (Q-before (ops w) (D w) (root w) k)) (sym (u.index_is ∙ add-one at.index.0))

  -- a remainder is in an array of 129 places
  rest_length : {before current : Poly} {rest : List ℕ} {at : Progress} → Walked w before current rest at → length rest ≡ 129
  rest_length t = ap length t.state.left_is ∙ length_pad (ops w) 129 _

  ready : {before current : Poly} {rest : List ℕ} {at : Progress} → Walked w before current rest at → Ready (name w) (top w) current.size w.root.twice before.c current.c rest
  ready {before} {current} {rest} {at} t = state_ready w.root.surd.field.q (g w) (D w) w.root.surd.admitted w.root.twice w.root.twice_is at.index.0 before.c current.c rest current.size t.state

  pub strided_tested : {before current after : Poly} {rest remains : List ℕ} {at to : Progress} → Walked w before current rest at → Earlier w before at → Walked w current after remains to → Tested w before current rest remains
  strided_tested {at = at} t k u =
      let h = w.root.surd.admitted in
      let l = h.genus_most in
      record {
        some = size_some w t;
        most = size_most w t;
        before_within = subst₂ (Within (name w)) (sym t.state.before_is) (sym k) (pad_within w.root.surd.field.q _ _ (omega arith) (let e = h.size_D in before_length (surd_of h) 129 (omega arith) (omega arith) at.index.0) (before_oks (surd_of h) h.below at.index.0));
        current_within = (ready t).current_within;
        rest_long = rest_length t;
        remains_long = rest_length u;
        rest_within = (ready t).rest_within;
        remains_within = (ready u).rest_within;
      }
