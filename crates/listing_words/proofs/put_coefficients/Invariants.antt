-- The invariant: the words so far are those of the first coefficients.
use Rattle.std.proofs.Common.{◌≡◌, ℕ, ◌<◌, get_or}
use Rattle.spec_arithmetic.specs.Words.{word}
use Rattle.base_words.specs.WordKind.{number_of}
use Rattle.listing_words.proofs.put_coefficients.Given as goal

abbrev pub invariant-loop-i : goal.invariant-loop-i
invariant-loop-i l = (k : ℕ) → k < l.i → get_or l.words k 0 ≡ word (number_of l.kind) (get_or l.c k 0)
