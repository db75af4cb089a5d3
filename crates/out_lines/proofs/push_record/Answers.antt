-- The head, one coefficient more, and the end of the line.
use Rattle.std.proofs.Common.{arith}
use Rattle.std.proofs.lemmas.Grind.{common_steps}
use Rattle.spec_definitions.specs.Text.{spaced}
use Rattle.out_lines.proofs.Lines.{numbers_within, numbers_more, coefficients, coefficient_at, record_line_is}
use Rattle.out_lines.proofs.push_record.Goals as goal

pub push_head-requires-clause-room : goal.push_head-requires-clause-room
push_head-requires-clause-room c = grind (arith, common_steps, record_line_is)

pub loop-word-init : goal.loop-word-init
unfolding spaced
loop-word-init c = grind (arith, common_steps)

pub push_number-requires : goal.push_number-requires
push_number-requires c = grind (arith, common_steps, record_line_is, numbers_within (coefficients c.args.words.now) c.loop-word.word-index, coefficient_at)

pub loop-word-preserved : goal.loop-word-preserved
loop-word-preserved c = grind (arith, common_steps, numbers_more (coefficients c.args.words.now) c.loop-word.word-index, coefficient_at)

pub end_line-requires : goal.end_line-requires
end_line-requires c = grind (arith, common_steps, record_line_is)

pub returns : goal.returns
returns c = grind (arith, common_steps, record_line_is)
