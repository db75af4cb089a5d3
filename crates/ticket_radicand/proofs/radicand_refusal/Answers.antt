-- Past tests 5 and 6 the record is held.
use Rattle.std.proofs.Common.{arith, sym, ◌∙◌}
use Rattle.base_field.specs.Named.{named}
use Rattle.ticket_radicand.specs.Radicand.{held_of}
use Rattle.ticket_radicand.proofs.radicand_refusal.Goals as goal

pub not_squarefree-requires : goal.not_squarefree-requires
not_squarefree-requires c =
    held_of _ (named c.args.f c.args.f.is_field) _ c.args.n c.requires.n_bound.1 (omega arith) c.requires.is
    (sym c.wrong_coefficient.ensures ∙ c.if-wrong_coefficient.false)
    (sym c.wrong_lead.ensures ∙ c.if-wrong_lead.false)
