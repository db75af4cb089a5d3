-- The invariant: the numbers passed are written.
use Rattle.std.proofs.Common.{◌≡◌, ◌++◌, take}
use Rattle.spec_definitions.specs.Text.{spaced}
use Rattle.out_lines.proofs.push_line.Given as goal

abbrev pub invariant-loop-number : goal.invariant-loop-number
invariant-loop-number l = l.text ≡ l.initial.text ++ spaced (take l.number-index l.numbers)
