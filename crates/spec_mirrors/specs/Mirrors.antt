-- R-6: the mirror of a record is the distance of its conjugate, read from the words of the list at exit. For each
-- record of a found listing the record at the distance `mirror`, or record 1 where the mirror is R, is its conjugate,
-- and no other record is; where the mirror is below R, lookup at it hands that record back.
use Rattle.std.specs.Prelude.{ℕ, ◌+◌, ◌*◌, ◌≤◌, ◌<◌, ◌≡◌, ◌↔◌, List, [], take}
use Rattle.spec_arithmetic.specs.Polynomials.{add, sub, rem, pad}
use Rattle.spec_definitions.specs.Ticket.{Ticket, genus, ticket_of}
use Rattle.spec_definitions.specs.Answers.{found, said, ops_of}
use Rattle.spec_definitions.specs.Listing.{listing_answer}
use Rattle.spec_definitions.specs.Lookup.{record_at, lookup_of, place_of}
use Rattle.spec_sentences.specs.Arithmetic.{Divides}
use Rattle.spec_answers.specs.Records.{distance_read, mirror_read, QRead, PRead}
use Rattle.spec_mirrors.specs.Conjugates.{at}

-- record i + 1 of the list l is the conjugate of record j + 1
pub record ConjugateRead (t : Ticket) (l : List ℕ) (i j : ℕ) : Type 0 where
  -- "the same Q"
  pub same_Q : QRead t.n i l ≡ QRead t.n j l
  -- "and P negated modulo Q": the remainder of −P by Q, in g coefficients; and, without `rem`, Q divides the sum of the
  -- two P
  pub minus_P : PRead t.n i l ≡ pad (ops_of t) (genus t.n) (rem (ops_of t) (sub (ops_of t) [] (PRead t.n j l)) (QRead t.n j l))
  pub sum : Divides t.field (QRead t.n j l) (add (ops_of t) (PRead t.n i l) (PRead t.n j l))

-- of record j + 1 of the list l, whose first m records are a listing: "the record at that distance, or record 1 where
-- the mirror is R, is the conjugate"; here it is record at + 1
pub record MirrorHolds (t : Ticket) (R m j : ℕ) (l : List ℕ) : Type 0 where
  pub at : ℕ
  pub listed : at < m
  pub most : mirror_read t.n j l ≤ R
  pub distance : mirror_read t.n j l < R → distance_read t.n at l ≡ mirror_read t.n j l
  pub first : mirror_read t.n j l ≡ R → at ≡ 0
  pub conjugate : ConjugateRead t l at j
  -- no other record is at that distance, and no other is the conjugate
  pub only_there : (i : ℕ) → i < m → distance_read t.n i l ≡ mirror_read t.n j l → i ≡ at
  pub only_conjugate : (i : ℕ) → i < m → ConjugateRead t l i j → i ≡ at
  -- where the mirror is below R, the mirror of the conjugate is the record's own distance
  pub back : mirror_read t.n j l < R → mirror_read t.n at l ≡ distance_read t.n j l
  -- the mirror is R for record 1 and for no other
  pub whole : (mirror_read t.n j l ≡ R) ↔ (j ≡ 0)
  -- below R, `lookup` at the mirror hands that record back, at its place
  pub looked_up : mirror_read t.n j l < R → lookup_of (take (m * (t.n + 4)) l) t.n (mirror_read t.n j l) ≡ record_at l t.n at
  pub placed : mirror_read t.n j l < R → place_of (take (m * (t.n + 4)) l) t.n (mirror_read t.n j l) ≡ at * (t.n + 4)

abbrev pub T2Mirrors : Type 0
T2Mirrors = (w old : List ℕ) (R m c : ℕ) → (listing_answer w old).says ≡ said (found R m c) → (j : ℕ) → j < m → MirrorHolds (ticket_of w) R m j (listing_answer w old).list
