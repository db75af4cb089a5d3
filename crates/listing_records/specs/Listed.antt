-- What holds at each turn of the listing: where the walk stands, and the records of the indices 1 to the
-- walk's, stored from the first place on.
use Rattle.std.specs.Prelude.{ℕ, suc, ◌+◌, ◌*◌, ◌≤◌, ◌<◌, ◌≡◌, refl, List, ◌++◌, length, drop}
use Rattle.std.proofs.Common.{mul-le-mul, suc-mul, arith, sym, ap₂, ◌∙◌}
use Rattle.std.proofs.Math.Numerals.{add-one}
use Rattle.std.proofs.Math.Path.{ap}
use Rattle.spec_definitions.specs.Ticket.{budgets, degrees}
use Rattle.spec_definitions.specs.Answers.{root_of}
use Rattle.spec_definitions.specs.Listing.{Entry, mirror_of, record_words, entry_of, record_of, records_from, listing_of}
use Rattle.spec_laws.specs.Admitted.{surd_of}
use Rattle.spec_laws.specs.Convergents.{degree_rise, degree_most}
use Rattle.spec_laws.specs.RecordLength.{length_record, length_records}
use Rattle.base_polynomial.specs.declared.Poly.{Poly}
use Rattle.base_surd.specs.Surd.{ticket_with}
use Rattle.walk_state.specs.declared.Walk.{Walk}
use Rattle.walk_state.specs.Walk.{ops, g}
use Rattle.walk_stride.specs.declared.Progress.{Progress}
use Rattle.walk_stride.specs.Progress.{Begun, Going, Turned}
use Rattle.walk_stride.specs.Walked.{Walked, walked_first, going}
use Rattle.walk_stride.specs.Stride.{turn_walked}
use Rattle.listing_words.specs.Stored.{stored, stored_none, stored_append, stored_first, length_stored}
use Rattle.walk_run.specs.Found.{Found, found_index, found_degree}
use Rattle.listing_record.specs.Entry.{entry_with, record_with, entry_from, record_from}
use Rattle.listing_records.specs.Ideal.{ideal_is}
use Rattle.listing_records.specs.Records.{records_next}

pub record Listed (w : Walk) (R : ℕ) (old out : List ℕ) (before current : Poly) (rest : List ℕ) (at : Progress) : Type 0 where
  pub walked : Walked w before current rest at
  pub long : length out ≡ length old
  pub words : (budget : ℕ) → out ≡ stored old 0 (records_from (ticket_with w.root.surd budget) R 0 at.index.0)

module _ (w : Walk) {b R m c : ℕ} (found : Found w.root.surd b R m c) where
  abbrev n : ℕ
  n = w.root.surd.n

  -- 2²⁸·32 is 2³³
  pub regulator_fits : R ≤ degrees
  regulator_fits =
      let e = found_degree w.root.surd found in
      let k = degree_most (surd_of w.root.surd.admitted) m in
      let x : m ≤ budgets = (let i = found_index w.root.surd found in omega arith) in
      let y : suc (g w) ≤ 32 = (let l = w.root.surd.admitted.genus_most in omega arith) in
      let z : m * suc (g w) ≤ budgets * 32 = mul-le-mul x y in
      omega arith

  -- how many words a record has
  pub length_from : (current : Poly) (rest : List ℕ) (at : Progress) → length (record_from w R current rest at) ≡ n + 4
  unfolding record_from record_with
  length_from current rest at = length_record (ops w) n _ _ found.even

  module _ (old : List ℕ) (room : m * (n + 4) ≤ length old) where
    -- the record of the index i + 1 has its place
    pub place_fits : (i : ℕ) → i < m → i * (n + 4) + (n + 4) ≤ length old
    place_fits i more =
        let k : suc i * (n + 4) ≤ m * (n + 4) = mul-le-mul more (let z : n + 4 ≤ n + 4 = omega arith in z) in
        let e : suc i * (n + 4) ≡ i * (n + 4) + (n + 4) = suc-mul i (n + 4) in
        omega arith

    -- the records of the indices 1 to m are the listing
    pub listed_all : {out : List ℕ} {before current : Poly} {rest : List ℕ} {at : Progress} → Listed w R old out before current rest at → at.index.0 ≡ m → (budget : ℕ) → out ≡ listing_of (ticket_with w.root.surd budget) R m ++ drop (m * (n + 4)) old
    unfolding listing_of
    listed_all t k budget =
        t.words budget ∙ ap (λ (j : ℕ). stored old 0 (records_from (ticket_with w.root.surd budget) R 0 j)) k
        ∙ stored_first (records_from (ticket_with w.root.surd budget) R 0 m) old (m * (n + 4)) (length_records (ticket_with w.root.surd budget) R found.even 0 m) room

  module _ {old out : List ℕ} {before current : Poly} {rest : List ℕ} {at : Progress} (t : Listed w R old out before current rest at) where
    pub degree_within : at.index.0 < m → at.degree.0 ≤ R
    degree_within more = let e = t.walked.degree_is in let f = found_degree w.root.surd found in let k = degree_rise (surd_of w.root.surd.admitted) at.index.0 m more in omega arith

    -- what the next step asks for
    pub listed_going : at.index.0 < m → Going w before current rest at
    listed_going more = going w t.walked (let l = found_index w.root.surd found in omega arith)

    record_is : (budget : ℕ) → record_from w R current rest at ≡ record_of (ticket_with w.root.surd budget) R at.index.0
    unfolding record_of record_from record_with entry_from entry_with entry_of root_of
    record_is budget = ap (λ (x : Entry). record_words (ops w) n (mirror_of (ops w) R x) x) entry_is
      where
        entry_is : entry_from w current rest at ≡ entry_of (ticket_with w.root.surd budget) at.index.0
        entry_is = λ j. record { index = add-one at.index.0 j; distance = t.walked.degree_is j; ideal = ideal_is w t.walked j }

    pub listed_next : {out' : List ℕ} {before' current' : Poly} {rest' : List ℕ} {to : Progress} → out' ≡ stored out (at.index.0 * (n + 4)) (record_from w R current rest at) → Turned w before current rest before' current' rest' at to → Listed w R old out' before' current' rest' to
    listed_next {out'} {to = to} put u =
        let i = at.index.0 in
        let s : to.index.0 ≡ suc i = u.taken.index_is ∙ add-one i in
        record {
          walked = turn_walked w t.walked u;
          long = ap length put ∙ length_stored out (i * (n + 4)) _ ∙ t.long;
          words = λ budget.
              put ∙ ap₂ (λ (o v : List ℕ). stored o (i * (n + 4)) v) (t.words budget) (record_is budget)
              ∙ stored_append (records_from (ticket_with w.root.surd budget) R 0 i) (record_of (ticket_with w.root.surd budget) R i) old 0 (i * (n + 4)) (let l : length (records_from (ticket_with w.root.surd budget) R 0 i) ≡ i * (n + 4) = length_records (ticket_with w.root.surd budget) R found.even 0 i in omega arith)
              ∙ ap (stored old 0) (sym (ap (records_from (ticket_with w.root.surd budget) R 0) s ∙ records_next (ticket_with w.root.surd budget) R i));
        }

-- no record yet
pub listed_first : (w : Walk) {R : ℕ} {old : List ℕ} {before current : Poly} {rest : List ℕ} {at : Progress} → Begun w before current rest at → Listed w R old old before current rest at
unfolding records_from
listed_first w {R = R} {old = old} {at = at} b =
    record {
      walked = walked_first w b;
      long = refl;
      words = λ budget. sym (ap (λ (j : ℕ). stored old 0 (records_from (ticket_with w.root.surd budget) R 0 j)) b.index_is ∙ stored_none old 0);
    }
