-- A number below ten is one byte; any other has its last digit after those of its tenth part.
use Rattle.std.proofs.Common.{arith}
use Rattle.std.proofs.lemmas.Grind.{common_steps}
use Rattle.spec_digits.proofs.Decimal.{decimal_one, decimal_more, length_more}
use Rattle.out_text.proofs.Text.+push_decimal.Goals.{then-x-ge10, else-x-ge10}
use Rattle.out_text.proofs.Text.+push_decimal.Goals as goal

pub push_decimal-requires : goal.push_decimal-requires
push_decimal-requires t c = (omega arith, omega (arith, length_more c.args.x (omega arith)))

pub push-requires : goal.push-requires
push-requires t c = elim c.if-x-ge10.branch [ then-x-ge10 w ↦ grind (arith, common_steps, decimal_more) | else-x-ge10 w ↦ grind (arith, common_steps, decimal_one) ]

pub returns : goal.returns
returns t c = elim c.if-x-ge10.branch [ then-x-ge10 w ↦ grind (arith, common_steps, decimal_more) | else-x-ge10 w ↦ grind (arith, common_steps, decimal_one) ]
