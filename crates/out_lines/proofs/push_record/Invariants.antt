-- The invariant: the coefficients passed are written.
use Rattle.std.proofs.Common.{◌≡◌, ◌++◌, take}
use Rattle.spec_definitions.specs.Text.{spaced}
use Rattle.out_lines.proofs.Lines.{coefficients}
use Rattle.out_lines.proofs.push_record.Given as goal

abbrev pub invariant-loop-word : goal.invariant-loop-word
invariant-loop-word l = l.text ≡ l.initial.text ++ spaced (take l.word-index (coefficients l.words))
