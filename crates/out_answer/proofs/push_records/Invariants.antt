-- The invariant: the lines written and those of the records left are all lines, and there is room for these.
use Rattle.std.proofs.Common.{◌+◌, ◌*◌, ◌≤◌, ◌≡◌, ◌++◌, length}
use Rattle.spec_definitions.specs.Program.{record_lines}
use Rattle.out_text.specs.declared.TheConstants.{ROOM}
use Rattle.out_answer.proofs.Records.{Left}
use Rattle.out_answer.proofs.push_records.Given as goal

abbrev pub invariant-loop-words : goal.invariant-loop-words
invariant-loop-words l = (l.words-iterator.size ≡ l.n + 4) × (length l.text + 10 * length l.words-iterator.rest.now ≤ ROOM) × Left l.n l.text l.words-iterator.rest.now (l.initial.text ++ record_lines l.list l.n 0 l.count)
