-- The demands for the ideal at or below a distance, for tickets of any words and any length and for every y.
-- T1: the ticket's refusals, then 10 where y is above 2^40; a refusal is all zeros. T2: the answer is the last
-- ideal of the endless walk whose distance is at most y, with its distance and that of the next; the distances
-- inside stay at or below 2^40; the walk past R repeats its ideals with distances raised by R. No other answer
-- is refused so and stands so. The walk past R is proved in Repeats, the last of these in Only.
use Prim.Native.Nat.{ℕ, suc, ◌+◌, ◌*◌, ◌/◌, ◌≤◌, ◌<◌}
use Rattle.std.specs.Prelude.{◌≡◌, ◌↔◌, ◌≢◌, ◌⊎◌, false, get_or}
use mathlib.Core.List.{List, []}
use Rattle.std.proofs.Math.ListN.{length}
use Rattle.spec_arithmetic.specs.Polynomials.{size, lead, sub, scale}
use Rattle.spec_definitions.specs.Ticket.{Ticket, genus, ticket_of, refusal_of}
use Rattle.spec_definitions.specs.Walk as walk
use Rattle.spec_definitions.specs.Answers.{found, ops_of, root_of, words_outcome}
use Rattle.spec_definitions.specs.Listing.{entry_of}
use Rattle.spec_definitions.specs.Products.{farthest, wrong_distance}
use Rattle.spec_fields.specs.Named.{Ok}
use Rattle.spec_sentences.specs.Sentences.{Same}
use Rattle.spec_sentences.specs.Arithmetic.{Divides}
use Rattle.spec_expansion.specs.QuasiPeriod.{IsQuasiPeriod}
use Rattle.spec_answers.specs.Refusals.{First, None}
use Rattle.spec_answers.specs.Outcomes.{degree_at}
use Rattle.spec_giants.specs.Entries.{ideal}
use Rattle.spec_ideal_at.specs.Halving.{single_steps, doubled, ideal_below, IdealAtAnswer, ideal_at_answer}

-- ---- T1: "y is at most 2^40, else refusal 10, after the ticket's own refusals."
-- "polynomials .. and distances in the same answer are then zero"
abbrev pub IdealAtZero : IdealAtAnswer → Type 0
IdealAtZero a = (a.q ≡ []) × (a.p ≡ []) × (a.distance ≡ 0) × (a.next ≡ 0)

-- 0 is no refusal: it says that the ideal is there
pub record RefusedFirst (w : List ℕ) (y : ℕ) (a : IdealAtAnswer) : Type 0 where
  pub number : (k : ℕ) → k ≢ 0 → (a.number ≡ k) ↔ (First k w ⊎ ((k ≡ 10) × None w × (farthest < y)))
  pub zeros : a.number ≢ 0 → IdealAtZero a

abbrev pub T1IdealAt : Type 0
T1IdealAt = (w : List ℕ) (y : ℕ) → RefusedFirst w y (ideal_at_answer w y)

-- ---- T2
module _ (t : Ticket) where
  -- q and p are the ideal of index i of the walk: Q_i made monic, and P_i modulo that Q, with no zeros at the
  -- end
  pub record IdealOfIndex (i : ℕ) (q p : List ℕ) : Type 0 where
    pub Q_monic : lead (ops_of t) q ≡ 1
    pub Q_ratio : (k : ℕ) × (0 < k) × Ok t.field k × Same t.field q (scale (ops_of t) k (walk.Q (ops_of t) t.D (root_of t) i))
    pub P_congruent : Divides t.field q (sub (ops_of t) (walk.P (ops_of t) t.D (root_of t) i) p)
    pub P_less : size (ops_of t) p < size (ops_of t) q
    pub Q_below : (j : ℕ) → Ok t.field (get_or q j 0)
    pub P_below : (j : ℕ) → Ok t.field (get_or p j 0)
    pub Q_whole : length q ≡ size (ops_of t) q
    pub P_whole : length p ≡ size (ops_of t) p

  -- "It must be the last ideal of the endless walk whose distance is at most y.": that of the index `at`,
  -- which is record at + 1 of a listing that reaches it. "The answer is the ideal, its distance and the
  -- distance of the next one in the walk, continued past R as long as needed."
  pub record LastBelow (y : ℕ) (a : IdealAtAnswer) : Type 0 where
    pub number : a.number ≡ 0
    pub at : ℕ
    pub ideal : IdealOfIndex at a.q a.p
    pub distance : a.distance ≡ degree_at t at
    pub next : a.next ≡ degree_at t (suc at)
    pub low : a.distance ≤ y
    pub high : y < a.next
    pub last : (j : ℕ) → degree_at t j ≤ y → j ≤ at

  -- the lists of record i + 1, as the definitions' listing has them
  abbrev pub Listed : ℕ → IdealAtAnswer → Type 0
  Listed i a = (a.q ≡ (entry_of t i).ideal.q) × (a.p ≡ (entry_of t i).ideal.p)

-- past the refusals, whatever the budget
abbrev pub T2IdealAt : Type 0
T2IdealAt = (w : List ℕ) → refusal_of w ≡ 0 → (y : ℕ) → y ≤ farthest → (b : LastBelow (ticket_of w) y (ideal_at_answer w y)) × Listed (ticket_of w) b.at (ideal_at_answer w y)

-- 10 never comes from inside: for y up to 2^40 no distance that a giant step of the halving is handed is
-- above 2^40, and the distance that it gives, from which the single steps go on up to y, is not above y
pub record Inside (t : Ticket) (y : ℕ) : Type 0 where
  pub handed : (ideal_below t (y / 2)).distance ≤ y / 2
  pub near : wrong_distance (ideal_below t (y / 2)).distance (ideal_below t (y / 2)).distance ≡ false
  pub landed : (doubled t (ideal_below t (y / 2))).distance ≤ y
  -- the ideal for y is made of no other: "the ideal for y comes from the one for y div 2 by a giant step with
  -- itself and then single steps"
  pub halved : 0 < y → ideal_below t y ≡ single_steps t (4 * genus t.n + 1) y (doubled t (ideal_below t (y / 2)))

abbrev pub T2Inside : Type 0
T2Inside = (w : List ℕ) → refusal_of w ≡ 0 → (y : ℕ) → y ≤ farthest → Inside (ticket_of w) y

-- "The walk past R repeats its ideals with distances raised by R": k times round, for the quasi-period m of
-- the ticket, whatever its budget; R is the distance of index m, which is the regulator where one is found
pub record Repeated (t : Ticket) (m : ℕ) : Type 0 where
  pub ideal : (k i : ℕ) → (entry_of t (k * m + i)).ideal ≡ (entry_of t i).ideal
  pub distance : (k i : ℕ) → degree_at t (k * m + i) ≡ k * degree_at t m + degree_at t i

pub record T2Repeats : Type 0 where
  pub ideals : (w : List ℕ) → refusal_of w ≡ 0 → (m : ℕ) → IsQuasiPeriod (ticket_of w) m → Repeated (ticket_of w) m
  pub regulator : (w : List ℕ) (R m c : ℕ) → words_outcome w ≡ found R m c → IsQuasiPeriod (ticket_of w) m × (R ≡ degree_at (ticket_of w) m)
  -- so does the answer: at y and k times R it is that at y, with both distances raised by k times R
  pub answer : (w : List ℕ) (R m c : ℕ) → words_outcome w ≡ found R m c → (k y : ℕ) → k * R + y ≤ farthest
      → ideal_at_answer w (k * R + y) ≡ record { number = 0; q = (ideal_at_answer w y).q; p = (ideal_at_answer w y).p; distance = k * R + (ideal_at_answer w y).distance; next = k * R + (ideal_at_answer w y).next }

-- ---- no other answer is refused so and stands so
abbrev pub IdealAtOnly : Type 0
IdealAtOnly = (w : List ℕ) (y : ℕ) (a : IdealAtAnswer) → RefusedFirst w y a → (refusal_of w ≡ 0 → y ≤ farthest → LastBelow (ticket_of w) y a) → a ≡ ideal_at_answer w y
