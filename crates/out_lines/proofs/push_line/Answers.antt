-- One number more.
use Rattle.std.proofs.Common.{arith}
use Rattle.std.proofs.lemmas.Grind.{common_steps}
use Rattle.spec_definitions.specs.Text.{line}
use Rattle.out_lines.proofs.Lines.{numbers_within, numbers_more}
use Rattle.out_lines.proofs.push_line.Goals as goal

pub push_number-requires : goal.push_number-requires
unfolding line
push_number-requires c = grind (arith, common_steps, numbers_within)

pub loop-number-preserved : goal.loop-number-preserved
loop-number-preserved c = grind (arith, common_steps, numbers_more)
