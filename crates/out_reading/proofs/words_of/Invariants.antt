-- The invariant: the words passed are those of the chunks passed.
use Rattle.std.proofs.Common.{◌≡◌, map, length, take}
use Rattle.out_reading.proofs.Words.{word_from}
use Rattle.out_reading.proofs.words_of.Given as goal

abbrev pub invariant-loop-i : goal.invariant-loop-i
invariant-loop-i l = (length l.words ≡ 70) × (take l.i l.words ≡ map word_from (take l.i l.chunks))
