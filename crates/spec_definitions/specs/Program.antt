-- The program "orders": bytes in, lines out.
use Rattle.std.specs.Prelude.{ℕ, zero, suc, ◌+◌, ◌*◌, ◌%◌, Bool, true, false, not, List, [], ◌∷◌, ◌++◌, map, eqb, length, get_or, take, drop, replicate}
use Rattle.spec_arithmetic.specs.Words.{value, joined}
use Rattle.spec_definitions.specs.Ticket.{ticket_of}
use Rattle.spec_definitions.specs.Answers.{Said, said, refused}
use Rattle.spec_definitions.specs.Listing.{ListingAnswer, listing_answer}
use Rattle.spec_definitions.specs.Lookup.{record_at}
use Rattle.spec_definitions.specs.Text.{ascii, decimal, line}

-- "Reads words, low byte first": the whole words of some bytes
unfoldable pub words_of : List ℕ → List ℕ
words_of (a ∷ (b ∷ (c ∷ (d ∷ l)))) = (a + 256 * b + 65536 * c + 16777216 * d) ∷ words_of l
words_of (a ∷ (b ∷ (c ∷ []))) = []
words_of (a ∷ (b ∷ [])) = []
words_of (a ∷ []) = []
words_of [] = []

-- "from the first 280 bytes of standard input, later ones ignored"
unfoldable pub read_bytes : List ℕ → List ℕ
read_bytes l = take 280 l

-- "a cut word among these bytes is refusal 1"
unfoldable pub cut_word : List ℕ → Bool
cut_word l = not (eqb (length l % 4) 0)

-- "It prints one line "found R m c", "spent steps degree" or "refused number""
unfoldable pub first_line : Said → List ℕ
first_line s =
    elim (eqb s.number 0) [
      | true ↦ line (ascii "found") s.values
      | false ↦ elim (eqb s.number 11) [ true ↦ line (ascii "spent") s.values | false ↦ line (ascii "refused") (s.number ∷ []) ]
    ]

-- "one line a record: index, distance, mirror, Q's g+1 coefficients, P's g"
unfoldable pub record_line : List ℕ → List ℕ
record_line r =
    decimal (value (get_or r 0 0))
    ++ line [] (joined (value (get_or r 1 0)) (value (get_or r 2 0)) ∷ joined (value (get_or r 3 0)) (value (get_or r 4 0)) ∷ map value (drop 5 r))

-- the lines of k records of a listing, from record j on, counted from 0
unfoldable pub record_lines : List ℕ → ℕ → ℕ → ℕ → List ℕ
record_lines l n j zero = []
record_lines l n j (suc k) = record_line (record_at l n j) ++ record_lines l n (suc j) k

-- "after "found", one line a record"
unfoldable pub answer_lines : ℕ → ListingAnswer → List ℕ
answer_lines n r = first_line r.says ++ (elim (eqb r.says.number 0) [ true ↦ record_lines r.list n 0 (get_or r.says.values 1 0) | false ↦ [] ])

-- what the program prints; "It lends a listing of 8,192 words."
unfoldable pub program_of : List ℕ → List ℕ
program_of input =
    let bytes : List ℕ = read_bytes input in
    let w : List ℕ = words_of bytes in
    elim (cut_word bytes) [ true ↦ first_line (said (refused 1)) | false ↦ answer_lines (ticket_of w).n (listing_answer w (replicate 8192 0)) ]
