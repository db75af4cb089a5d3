-- What is refused first is the definition's refusal; two ideals give their giant step.
use Rattle.std.proofs.Common.{refl, sym, ◌∙◌, subst}
use Rattle.base_surd.specs.declared.Surd.{Surd}
use Rattle.ideal_operand.specs.Ideal.{Operand}
use Rattle.ideal_giant.specs.Stepped.{Stepped}
use Rattle.call_product.specs.Operands.{are_operands, ticket_refused, pairs_refused, are_read}
use Rattle.call_giant_step.specs.GiantSteps.{passed_on, both_near, refused, far_refused, stepped}
use Rattle.call_giant_step.proofs.stepped.Goals as goal

pub returns-in_err-t : goal.returns-in_err-t
returns-in_err-t c = passed_on c.from_residual.ensures.1 (refused _ _ _ _ _ (ticket_refused _ _ _ _ c.in_err-t.ensures.refused))

pub returns-in_err-read_ideals : goal.returns-in_err-read_ideals
returns-in_err-read_ideals c =
    passed_on c.from_residual-in_err-read_ideals.ensures.1
    (refused _ _ _ _ _ (pairs_refused _ _ _ c.in_ok-t.t.surd c.in_ok-t.ensures.refused c.in_ok-t.ensures.read _ c.in_err-read_ideals.ensures.refused))

pub returns-then-far : goal.returns-then-far
returns-then-far c =
    let read = are_read _ _ _ c.in_ok-t.t.surd c.in_ok-t.ensures.refused c.in_ok-t.ensures.read c.in_ok-read_ideals.ensures.read in
    far_refused _ _ _ _ _ read (sym c.far.ensures ∙ c.if-far.true) refl

-- √D with its root is of the same √D
pub giant-shift-requires : goal.giant-shift-requires
giant-shift-requires c =
    let read = are_read _ _ _ c.in_ok-t.t.surd c.in_ok-t.ensures.refused c.in_ok-t.ensures.read c.in_ok-read_ideals.ensures.read in
    let o = c.read_ideals.new in
    record {
      operands = subst (λ (s : Surd). Operand s o.a × Operand s o.b) (sym c.new-r.ensures) (are_operands read);
      distances = both_near _ _ (sym c.far.ensures ∙ c.if-far.false);
    }

pub returns : goal.returns
returns c =
    let read = are_read _ _ _ c.in_ok-t.t.surd c.in_ok-t.ensures.refused c.in_ok-t.ensures.read c.in_ok-read_ideals.ensures.read in
    let o = c.read_ideals.new in
    let r = c.giant-shift in
    stepped _ _ _ _ _ read (sym c.far.ensures ∙ c.if-far.false)
    (subst (λ (s : Surd). Stepped s o.a c.args.d1.0 o.b c.args.d2.0 r.new.z r.result) c.new-r.ensures r.ensures)
