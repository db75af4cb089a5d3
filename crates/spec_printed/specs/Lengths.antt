-- The longest ticket, and more bytes than it has, by computation: n = 64 makes 69 words, 276 bytes, of the
-- 280 that are read.
use Rattle.std.specs.Prelude.{ℕ, ◌≡◌, List, [], ◌∷◌, ◌++◌, length, replicate}
use Rattle.spec_definitions.specs.Marked.{ticket, bytes}
use Rattle.spec_printed.specs.Lines.{Prints}

-- q = 3, D = x^64 + 1, b = 0, and k bytes more, each of them 0
abbrev pub longest : ℕ → List ℕ
longest k = bytes (ticket 3 (1 ∷ (replicate 63 0 ++ (1 ∷ []))) 0) ++ replicate k 0

-- "from the first 280 bytes of standard input, later ones ignored; a cut word among these bytes is refusal
-- 1": 277 bytes are a cut word, 280 a word too many, and of 281 the last is ignored
abbrev pub Lengths : Type 0
Lengths =
    (length (longest 0) ≡ 276)
    × Prints (longest 0) "spent 0 0\n"
    × Prints (longest 1) "refused 1\n"
    × Prints (longest 4) "refused 4\n"
    × Prints (longest 5) "refused 4\n"
