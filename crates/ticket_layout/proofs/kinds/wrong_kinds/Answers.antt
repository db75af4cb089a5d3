use Rattle.std.proofs.Common.{sym, ◌∙◌, below_more}
use Rattle.ticket_layout.proofs.kinds.wrong_kinds.Goals as goal

pub loop-i-preserved : goal.loop-i-preserved
loop-i-preserved g c = below_more _ _ c.loop-i.invariant (_, c.kind_at.ensures, sym c.kind.ensures ∙ c.if-kind-from.false ∙ c.from.ensures)
