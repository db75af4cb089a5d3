-- A record's words are the only ones: two lists whose words are read as the same record of the walk have the
-- same words there. So a list that is read as record j + 1 has the words of the definitions, and a list that
-- is read as every record from 1 to m and keeps the words after them is the list at exit. Neither a length
-- nor a bound on the words is asked for: the kinds tell that the words are there, and a word is its kind and
-- its value.
use Rattle.std.specs.Prelude.{ℕ, ◌+◌, ◌*◌, ◌<◌, ◌≡◌, List, take, drop}
use Rattle.spec_definitions.specs.Ticket.{ticket_of, refusal_of}
use Rattle.spec_definitions.specs.Answers.{found, said, words_outcome}
use Rattle.spec_definitions.specs.Listing.{record_of, listing_answer}
use Rattle.spec_refusals.specs.LentLists.{KeepsFrom}
use Rattle.spec_answers.specs.Records.{RecordRead}

-- record j + 1, for j below m: a list that is read as this record has its words
abbrev pub RecordOnly : Type 0
RecordOnly = (w : List ℕ) → refusal_of w ≡ 0 → (R m c : ℕ) → words_outcome w ≡ found R m c → (j : ℕ) → j < m → (l : List ℕ) → RecordRead (ticket_of w) R j l → take ((ticket_of w).n + 4) (drop (j * ((ticket_of w).n + 4)) l) ≡ record_of (ticket_of w) R j

-- a list as long as the one lent that is read as the records 1 to m and keeps the words past the last record
-- is the list at exit
abbrev pub ListingOnly : Type 0
ListingOnly = (w old : List ℕ) (R m c : ℕ) → (listing_answer w old).says ≡ said (found R m c) → (l : List ℕ) → ((j : ℕ) → j < m → RecordRead (ticket_of w) R j l) → KeepsFrom (m * ((ticket_of w).n + 4)) old l → l ≡ (listing_answer w old).list
