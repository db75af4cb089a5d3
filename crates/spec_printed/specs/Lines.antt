-- What the program prints where its answer is one line, by computation: the bytes of a ticket go in, and all
-- bytes that come out are compared.
use Rattle.std.specs.Prelude.{ℕ, ◌≡◌, List, [], ◌∷◌, take}
use Prim.Native.String.{String}
use Rattle.spec_definitions.specs.Text.{ascii}
use Rattle.spec_definitions.specs.Program.{program_of}
use Rattle.spec_definitions.specs.Marked.{ticket, bytes, example}

-- the text is all that the program prints for an input
abbrev pub Prints : List ℕ → String → Type 0
Prints input text = program_of input ≡ ascii text

-- "spent steps degree": the printed ticket with a budget of 5 and of 0, rows 3 and 4 of the marked table
abbrev pub Spent : Type 0
Spent = Prints (bytes (example 5)) "spent 5 6\n" × Prints (bytes (example 0)) "spent 0 0\n"

-- "refused number": rows 6 and 8 of the marked table
abbrev pub Refused : Type 0
Refused = Prints (bytes (ticket 3 (1 ∷ 0 ∷ 2 ∷ 0 ∷ 1 ∷ []) 6)) "refused 7\n" × Prints (bytes (ticket 9 (1 ∷ 1 ∷ 0 ∷ 0 ∷ 1 ∷ []) 6)) "refused 2\n"

-- "a cut word among these bytes is refusal 1": the printed ticket's 36 bytes without the last one, two and
-- three; without the last four they are eight words, which is 4; and no byte at all
abbrev pub Cut : Type 0
Cut =
    Prints (take 35 (bytes (example 6))) "refused 1\n"
    × Prints (take 34 (bytes (example 6))) "refused 1\n"
    × Prints (take 33 (bytes (example 6))) "refused 1\n"
    × Prints (take 32 (bytes (example 6))) "refused 4\n"
    × Prints [] "refused 1\n"
