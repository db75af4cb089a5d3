-- The format of words in plain numbers, by computation: "The top 4 bits of a word are its kind, the low 28
-- its value." Elsewhere a ticket or a record is made by `word` and read by `kind` and `value`: here the
-- printed ticket, its bytes and its listing are written out.
use Rattle.std.specs.Prelude.{ℕ, ◌≡◌, List, [], ◌∷◌, map, replicate}
use Rattle.spec_arithmetic.specs.Words.{kind, value, high, low, joined}
use Rattle.spec_definitions.specs.Listing.{listing_answer}
use Rattle.spec_definitions.specs.Program.{words_of, read_bytes}
use Rattle.spec_definitions.specs.Marked.{example}

-- q = 3, D = x^4 + x + 1, b = 6
abbrev pub plain_ticket : List ℕ
plain_ticket = 268435459 ∷ 536870916 ∷ 805306369 ∷ 805306369 ∷ 805306368 ∷ 805306368 ∷ 805306369 ∷ 1073741830 ∷ 4026531848 ∷ []

-- its bytes, the low byte of each word first
abbrev pub plain_bytes : List ℕ
plain_bytes =
    3 ∷ 0 ∷ 0 ∷ 16 ∷ 4 ∷ 0 ∷ 0 ∷ 32 ∷ 1 ∷ 0 ∷ 0 ∷ 48
    ∷ 1 ∷ 0 ∷ 0 ∷ 48 ∷ 0 ∷ 0 ∷ 0 ∷ 48 ∷ 0 ∷ 0 ∷ 0 ∷ 48
    ∷ 1 ∷ 0 ∷ 0 ∷ 48 ∷ 6 ∷ 0 ∷ 0 ∷ 64 ∷ 8 ∷ 0 ∷ 0 ∷ 240 ∷ []

-- its listing, a record a line
abbrev pub plain_listing : List ℕ
plain_listing =
    1342177281 ∷ 1610612736 ∷ 1879048192 ∷ 2684354560 ∷ 2952790023 ∷ 2147483649 ∷ 2147483648 ∷ 2415919104
    ∷ 1342177282 ∷ 1610612736 ∷ 1879048194 ∷ 2684354560 ∷ 2952790022 ∷ 2147483649 ∷ 2147483649 ∷ 2415919105
    ∷ 1342177283 ∷ 1610612736 ∷ 1879048195 ∷ 2684354560 ∷ 2952790021 ∷ 2147483648 ∷ 2147483649 ∷ 2415919105
    ∷ 1342177284 ∷ 1610612736 ∷ 1879048196 ∷ 2684354560 ∷ 2952790020 ∷ 2147483650 ∷ 2147483649 ∷ 2415919104
    ∷ 1342177285 ∷ 1610612736 ∷ 1879048197 ∷ 2684354560 ∷ 2952790019 ∷ 2147483648 ∷ 2147483649 ∷ 2415919106
    ∷ 1342177286 ∷ 1610612736 ∷ 1879048198 ∷ 2684354560 ∷ 2952790018 ∷ 2147483649 ∷ 2147483649 ∷ 2415919106 ∷ []

abbrev pub PlainTicket : Type 0
PlainTicket =
    (example 6 ≡ plain_ticket)
    × (map kind plain_ticket ≡ 1 ∷ 2 ∷ 3 ∷ 3 ∷ 3 ∷ 3 ∷ 3 ∷ 4 ∷ 15 ∷ [])
    × (map value plain_ticket ≡ 3 ∷ 4 ∷ 1 ∷ 1 ∷ 0 ∷ 0 ∷ 1 ∷ 6 ∷ 8 ∷ [])
    × (words_of (read_bytes plain_bytes) ≡ plain_ticket)

abbrev pub PlainListing : Type 0
PlainListing = (listing_answer plain_ticket (replicate 48 9)).list ≡ plain_listing

-- "high then low 28 bits"
abbrev pub PlainHighLow : Type 0
PlainHighLow = (map high (268435455 ∷ 268435456 ∷ 805306373 ∷ []) ≡ 0 ∷ 1 ∷ 3 ∷ []) × (map low (268435455 ∷ 268435456 ∷ 805306373 ∷ []) ≡ 268435455 ∷ 0 ∷ 5 ∷ []) × (◌≡◌ {A = ℕ} (joined 3 5) 805306373)
