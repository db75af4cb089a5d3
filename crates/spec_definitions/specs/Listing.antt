-- The call `listing`: the records of the reduced principal ideals, and the lent list at exit.
use Rattle.std.specs.Prelude.{ℕ, zero, suc, ◌+◌, ◌*◌, ◌-◌, true, false, List, [], ◌∷◌, ◌++◌, map, leb, length, drop}
use Rattle.spec_arithmetic.specs.Field.{Ops}
use Rattle.spec_arithmetic.specs.Polynomials.{deg, monic, rem, pad}
use Rattle.spec_arithmetic.specs.Words.{word, high, low}
use Rattle.spec_definitions.specs.Ticket.{Ticket, genus, ticket_of}
use Rattle.spec_definitions.specs.Walk.{Ideal, walk, degree_before}
use Rattle.spec_definitions.specs.Answers.{Outcome, found, spent, refused, Said, said, ops_of, root_of, words_outcome}

-- a record before its mirror is known
pub record Entry : Type 0 where
  pub index : ℕ
  pub distance : ℕ
  pub ideal : Ideal ℕ

pub record ListingAnswer : Type 0 where
  pub says : Said
  pub list : List ℕ

-- the ideal of a pair: Q made monic, and P mod that Q
unfoldable pub ideal_of : Ops ℕ → Ideal ℕ → Ideal ℕ
ideal_of o s = let m = monic o s.q in record { q = m; p = rem o s.p m }

-- R-6: "The mirror becomes R less the distance plus deg Q." It is the distance of the conjugate ideal; for the first
-- record, which is its own conjugate, it is R
unfoldable pub mirror_of : Ops ℕ → ℕ → Entry → ℕ
mirror_of o R e = (R - e.distance) + deg o e.ideal.q

-- "A record is n+4 words: kind 5 index; kinds 6 and 7 distance, high then low 28 bits; kinds 10 and 11
-- mirror, likewise; kind 8, the g+1 coefficients of Q; kind 9, the g coefficients of P, zeros above each
-- degree."
unfoldable pub record_words : Ops ℕ → ℕ → ℕ → Entry → List ℕ
record_words o n mirror e =
    word 5 e.index ∷ word 6 (high e.distance) ∷ word 7 (low e.distance) ∷ word 10 (high mirror) ∷ word 11 (low mirror)
    ∷ (map (word 8) (pad o (suc (genus n)) e.ideal.q) ++ map (word 9) (pad o (genus n) e.ideal.p))

module _ (t : Ticket) where
  -- "Record i, for i from 1 to m, is the ideal with Q_{i−1} made monic and P_{i−1} mod that Q. Its distance
  -- is deg p_{i−2}.": here j is i − 1
  unfoldable pub entry_of : ℕ → Entry
  entry_of j = record { index = suc j; distance = degree_before (ops_of t) t.D (root_of t) j; ideal = ideal_of (ops_of t) (walk (ops_of t) t.D (root_of t) j) }

  unfoldable pub record_of : ℕ → ℕ → List ℕ
  record_of R j = record_words (ops_of t) t.n (mirror_of (ops_of t) R (entry_of j)) (entry_of j)

  -- the words of k records from the index j + 1 on
  unfoldable pub records_from : ℕ → ℕ → ℕ → List ℕ
  records_from R j zero = []
  records_from R j (suc k) = record_of R j ++ records_from R (suc j) k

  unfoldable pub listing_of : ℕ → ℕ → List ℕ
  listing_of R m = records_from R 0 m

  -- "13: the listing is wanted and its list has fewer than m·(n+4) words"; "Words past the last record are
  -- untouched."
  unfoldable pub listing_from : Outcome → List ℕ → ListingAnswer
  listing_from (found R m c) l =
      elim (leb (m * (t.n + 4)) (length l)) [
        | true ↦ record { says = said (found R m c); list = listing_of R m ++ drop (m * (t.n + 4)) l }
        | false ↦ record { says = said (refused 13); list = l }
      ]
  listing_from (spent k e) l = record { says = said (spent k e); list = l }
  listing_from (refused j) l = record { says = said (refused j); list = l }

-- the call `listing`
unfoldable pub listing_answer : List ℕ → List ℕ → ListingAnswer
listing_answer w l = listing_from (ticket_of w) (words_outcome w) l
