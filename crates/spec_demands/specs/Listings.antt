-- T2, the part on listings: in every record nothing is cut, the mirror and the distance make up R and deg Q, and
-- the pair is an ideal; the words are read back as they were written, and lookup takes the listing.
use Rattle.std.specs.Prelude.{ℕ, suc, ◌+◌, ◌≤◌, ◌<◌, ◌≡◌, false, List, length, get_or}
use Rattle.spec_arithmetic.specs.Polynomials.{deg}
use Rattle.spec_arithmetic.specs.Words.{high, values}
use Rattle.spec_definitions.specs.Ticket.{Ticket, genus, ticket_of, refusal_of, wrong_degree, budgets}
use Rattle.spec_definitions.specs.Walk.{degree_before}
use Rattle.spec_definitions.specs.Answers.{found, words_outcome, ops_of, root_of}
use Rattle.spec_definitions.specs.Listing.{entry_of, mirror_of, record_of, listing_of}
use Rattle.spec_definitions.specs.Lookup.{record_at, distance_at, record_count}
use Rattle.spec_fields.specs.Named.{Ok}
use Rattle.spec_laws.specs.Admitted.{Admitted}
use Rattle.spec_refusals.specs.Lookups.{WrongListing}
use Rattle.spec_refusals.specs.Pairs.{IsPair}

-- record j + 1: each number fits into its words of 28 bits, no coefficient is left out, mirror and distance
-- make up R and deg Q, and the pair is an ideal
pub record RecordHolds (t : Ticket) (R j : ℕ) : Type 0 where
  pub index_fits : (entry_of t j).index < budgets
  pub distance_fits : high (entry_of t j).distance < values
  pub mirror_fits : high (mirror_of (ops_of t) R (entry_of t j)) < values
  pub mirror_is : mirror_of (ops_of t) R (entry_of t j) + (entry_of t j).distance ≡ R + deg (ops_of t) (entry_of t j).ideal.q
  pub Q_whole : length (entry_of t j).ideal.q ≤ suc (genus t.n)
  pub P_whole : length (entry_of t j).ideal.p ≤ genus t.n
  pub Q_below : (i : ℕ) → Ok t.field (get_or (entry_of t j).ideal.q i 0)
  pub P_below : (i : ℕ) → Ok t.field (get_or (entry_of t j).ideal.p i 0)
  pub ideal : IsPair t.field t.D (entry_of t j).ideal.q (entry_of t j).ideal.p

-- what is read in the list l of the records 1 to m, and that refusal 8 does not apply to it
pub record ReadBack (t : Ticket) (R m : ℕ) (l : List ℕ) : Type 0 where
  pub count : record_count l t.n ≡ m
  pub records : (j : ℕ) → j < m → record_at l t.n j ≡ record_of t R j
  pub distances : (j : ℕ) → j < m → distance_at l t.n j ≡ (entry_of t j).distance
  pub accepted : ¬ WrongListing l t.n

abbrev pub T2Listings : Type 0
T2Listings = (w : List ℕ) → refusal_of w ≡ 0 → (R m c : ℕ) → words_outcome w ≡ found R m c → ((j : ℕ) → j < m → RecordHolds (ticket_of w) R j) × ReadBack (ticket_of w) R m (listing_of (ticket_of w) R m)

-- ---- the records
module _ (t : Ticket) (h : Admitted t.field (genus t.n) t.D) (R m : ℕ) (most : m < budgets) (is : R ≡ degree_before (ops_of t) t.D (root_of t) m) where
  -- ---- their words, read back
  module _ (positive : 0 < m) (degree : wrong_degree t.n ≡ false) where
    abbrev l : List ℕ
    l = listing_of t R m
