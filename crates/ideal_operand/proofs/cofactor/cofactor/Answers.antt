-- The quotient that clears the places of D less those of P² from the top is the definition's.
use Rattle.std.proofs.Common.{arith, ap, ◌∙◌}
use Rattle.base_field.specs.Named.{ops}
use Rattle.base_polynomial.specs.Linear.{held_within, lead_place}
use Rattle.ideal_operand.specs.Cofactor.{cofactor_division, cofactor_past, cofactor_is}
use Rattle.ideal_operand.proofs.cofactor.cofactor.Goals as goal

pub upper_square-requires : goal.upper_square-requires
upper_square-requires c = ((held_within _ _ _ c.args.x.now.p.size c.requires.held.2 (omega arith), c.requires.held.2.short), omega arith)

pub quotient-requires-clause-lead_inverse_value : goal.quotient-requires-clause-lead_inverse_value
quotient-requires-clause-lead_inverse_value c = c.lead_inverse-w.ensures ∙ ap (ops c.args.f).inv (lead_place _ _ _ c.requires.held.1)

pub quotient-requires-clause-division : goal.quotient-requires-clause-division
quotient-requires-clause-division c =
    let h = c.requires.held in
    cofactor_division c.args.f.is_field.0 _ h.0 _ h.1 (omega arith) h.2 c.upper_square.ensures c.max-end.result (omega arith) (omega arith)

pub top-z-requires-clause-by_index : goal.top-z-requires-clause-by_index
top-z-requires-clause-by_index c =
    let h = c.requires.held in
    cofactor_past c.args.f.is_field.0 _ h.0 _ h.1 (omega arith) h.2 c.upper_square.ensures c.max-end.result (omega arith) (omega arith) c.quotient.ensures

pub returns : goal.returns
returns c =
    let h = c.requires.held in
    cofactor_is c.args.f.is_field.0 _ h.0 _ h.1 (omega arith) h.2 c.upper_square.ensures c.max-end.result (omega arith) (omega arith) c.quotient.ensures c.top-z.ensures
