-- T2, the part on listings, from the words at exit: where the call `listing` answers found, each of the
-- records 1 to m is read from the words of the lent list, and what is read is that of the walk at its own
-- index: kinds, index, distance, mirror, Q and P.
use Prim.Native.Nat.{ℕ, suc, ◌+◌, ◌*◌, ◌<◌}
use Rattle.std.specs.Prelude.{◌≡◌, take, drop}
use mathlib.Core.List.{List, map}
use Rattle.std.proofs.Math.ListN.{get_or}
use Rattle.spec_arithmetic.specs.Polynomials.{size, deg, lead, sub, scale}
use Rattle.spec_arithmetic.specs.Words.{kind, value, joined}
use Rattle.spec_definitions.specs.Ticket.{Ticket, genus, ticket_of}
use Rattle.spec_definitions.specs.Walk.{p_before}
use Rattle.spec_definitions.specs.Walk as walk
use Rattle.spec_definitions.specs.Answers.{found, said, ops_of, root_of}
use Rattle.spec_definitions.specs.Listing.{listing_answer}
use Rattle.spec_definitions.specs.Lookup.{record_kinds}
use Rattle.spec_fields.specs.Named.{Ok}
use Rattle.spec_sentences.specs.Sentences.{Same}
use Rattle.spec_sentences.specs.Arithmetic.{Divides}

-- record j + 1 in a list l of records of n + 4 words
module _ (n j : ℕ) (l : List ℕ) where
  -- word i of the record, from 0 on
  abbrev pub word_at : ℕ → ℕ
  word_at i = get_or l (j * (n + 4) + i) 0

  -- "kinds 6 and 7 distance, high then low 28 bits"
  abbrev pub distance_read : ℕ
  distance_read = joined (value (word_at 1)) (value (word_at 2))

  -- "kinds 10 and 11 mirror, likewise"
  abbrev pub mirror_read : ℕ
  mirror_read = joined (value (word_at 3)) (value (word_at 4))

  -- "kind 8, the g+1 coefficients of Q": the values of words 5 to g + 5
  abbrev pub QRead : List ℕ
  QRead = map value (take (suc (genus n)) (drop (j * (n + 4) + 5) l))

  -- "kind 9, the g coefficients of P": the values of words g + 6 to n + 3
  abbrev pub PRead : List ℕ
  PRead = map value (take (genus n) (drop (j * (n + 4) + (genus n + 6)) l))

-- "Record i, for i from 1 to m, is the ideal with Q_{i−1} made monic and P_{i−1} mod that Q. Its distance is
-- deg p_{i−2}.": here j is i − 1, and `p_before j` is p_{j−1}. R-6: "The mirror becomes R less the distance plus
-- deg Q." The Q read is monic and a constant multiple of Q_{i−1}; the P read is congruent to P_{i−1} modulo it
-- and has a lower degree.
pub record RecordRead (t : Ticket) (R j : ℕ) (l : List ℕ) : Type 0 where
  pub kinds : (i : ℕ) → i < t.n + 4 → kind (word_at t.n j l i) ≡ get_or (record_kinds t.n) i 0
  pub index : value (word_at t.n j l 0) ≡ suc j
  pub distance : distance_read t.n j l ≡ deg (ops_of t) (p_before (ops_of t) t.D (root_of t) j)
  pub mirror : mirror_read t.n j l + distance_read t.n j l ≡ R + deg (ops_of t) (QRead t.n j l)
  pub Q_monic : lead (ops_of t) (QRead t.n j l) ≡ 1
  pub Q_ratio : (k : ℕ) × (0 < k) × Ok t.field k × Same t.field (QRead t.n j l) (scale (ops_of t) k (walk.Q (ops_of t) t.D (root_of t) j))
  pub P_congruent : Divides t.field (QRead t.n j l) (sub (ops_of t) (walk.P (ops_of t) t.D (root_of t) j) (PRead t.n j l))
  pub P_less : size (ops_of t) (PRead t.n j l) < size (ops_of t) (QRead t.n j l)
  pub Q_below : (i : ℕ) → Ok t.field (get_or (QRead t.n j l) i 0)
  pub P_below : (i : ℕ) → Ok t.field (get_or (PRead t.n j l) i 0)

abbrev pub T2Records : Type 0
T2Records = (w old : List ℕ) (R m c : ℕ) → (listing_answer w old).says ≡ said (found R m c) → (j : ℕ) → j < m → RecordRead (ticket_of w) R j (listing_answer w old).list
