-- A value that stands for a negative number is 2²⁸ too large.
use Rattle.std.proofs.Common.{sym, ap₂, ◌∙◌}
use Rattle.base_field.specs.Named.{ops}
use Rattle.spec_several.proofs.Residues.{plain_residue}
use Rattle.ticket_several.specs.Residues.{negative_difference}
use Rattle.ticket_several.proofs.job.residue.Goals as goal

pub returns-then-v-lt-NEGATIVES : goal.returns-then-v-lt-NEGATIVES
returns-then-v-lt-NEGATIVES c = c.reduce-r.ensures ∙ sym (plain_residue _ _ c.if-v-lt-NEGATIVES.true)

pub returns-else-v-lt-NEGATIVES : goal.returns-else-v-lt-NEGATIVES
returns-else-v-lt-NEGATIVES c =
    c.sub.ensures
    ∙ ap₂ (λ a b. (ops c.args.f).sub a b) c.reduce-r.ensures c.reduce.ensures
    ∙ sym (negative_difference _ _ c.if-v-lt-NEGATIVES.false)
