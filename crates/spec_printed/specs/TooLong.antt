-- "With a listing too short the only line is "refused 13"". More than 8,192 words are at least 121 records,
-- and to compute so many steps of the definition's walk is more than the checker allows a declaration. So
-- `TooLong` speaks of every such input, and `Shorter` computes the line with a lent list of 47 words, one
-- fewer than the printed example needs, in the place of the 8,192.
use Rattle.std.specs.Prelude.{ℕ, ◌+◌, ◌*◌, ◌≤◌, ◌<◌, ◌≡◌, false, List, ◌++◌, drop, replicate}
use Rattle.spec_definitions.specs.Ticket.{ticket_of}
use Rattle.spec_definitions.specs.Answers.{found, refused, said, words_outcome}
use Rattle.spec_definitions.specs.Listing.{listing_of, listing_answer}
use Rattle.spec_definitions.specs.Text.{ascii}
use Rattle.spec_definitions.specs.Program.{words_of, read_bytes, cut_word, answer_lines, program_of}
use Rattle.spec_definitions.specs.Marked.{example}
use Rattle.spec_printed.specs.Lines.{Prints}

-- the words that the program reads
abbrev pub words_read : List ℕ → List ℕ
words_read input = words_of (read_bytes input)

abbrev pub TooLong : Type 0
TooLong = (input : List ℕ) → cut_word (read_bytes input) ≡ false → (R m c : ℕ) → words_outcome (words_read input) ≡ found R m c → 8192 < m * ((ticket_of (words_read input)).n + 4) → Prints input "refused 13\n"

-- "It lends a listing of 8,192 words.": a listing of so many words or fewer is printed
abbrev pub Fits : Type 0
Fits = (input : List ℕ) → cut_word (read_bytes input) ≡ false → (R m c : ℕ) → words_outcome (words_read input) ≡ found R m c → let t = ticket_of (words_read input) in m * (t.n + 4) ≤ 8192
    → program_of input ≡ answer_lines t.n (record { says = said (found R m c); list = listing_of t R m ++ drop (m * (t.n + 4)) (replicate 8192 0) })

abbrev pub Shorter : Type 0
Shorter = answer_lines 4 (listing_answer (example 6) (replicate 47 0)) ≡ ascii "refused 13\n"
