-- The words of a listing, read back: where each record stands, its kinds and its distance, for records whose
-- numbers fit into their words.
use Prim.Native.Nat.{ℕ, zero, suc, ◌+◌, ◌*◌, ◌/◌, ◌%◌, ◌≤◌, ◌<◌}
use Rattle.std.proofs.Common.{zero-mul, suc-mul, add-zero, add-suc, suc-add, arith, ◌∙◌, drop_at, drop-drop, get_or-take, lt-ltb}
use Rattle.std.proofs.Math.Nat.{add_comm, mul-div_cancel, mul-mod_left}
use Rattle.std.specs.Prelude.{◌≡◌, true, length, drop, replicate}
use Rattle.std.proofs.Math.Path.{refl, sym, ap, ap₂}
use mathlib.Core.List.{List, [], ◌∷◌, ◌++◌, map, map-append}
use Rattle.std.proofs.Math.ListN.{get_or, take}
use Rattle.std.proofs.Math.Seq.{take_at, get_or-drop}
use Rattle.spec_arithmetic.specs.Field.{FieldName, Ops, ops}
use Rattle.spec_arithmetic.specs.Polynomials.{pad}
use Rattle.spec_arithmetic.specs.Words.{kind, value, word, high, low, joined, same, values}
use Rattle.spec_definitions.specs.Ticket.{Ticket, genus, budgets}
use Rattle.spec_definitions.specs.Answers.{ops_of}
use Rattle.spec_definitions.specs.Listing.{Entry, record_words, entry_of, record_of, records_from, listing_of}
use Rattle.spec_definitions.specs.Lookup.{record_kinds, record_at, distance_at, record_count, right_kinds, rising}
use Rattle.spec_lists.specs.Words.{kind_word, value_word, low_less, joined_back}
use Rattle.spec_lists.specs.Same.{same_refl}
use Rattle.spec_laws.specs.RecordLength.{length_one, length_records}

-- the kinds of coefficients that fit
kinds_pad : (f : FieldName) (c k : ℕ) (l : List ℕ) → ((i : ℕ) → get_or l i 0 < values) → map kind (map (word c) (pad (ops f) k l)) ≡ replicate k c
unfolding pad
kinds_pad f c zero l h = refl
kinds_pad f c (suc k) [] h = ap₂ (λ (x : ℕ) (t : List ℕ). x ∷ t) (kind_word c 0 (omega arith)) (kinds_pad f c k [] (λ i. omega arith))
kinds_pad f c (suc k) (a ∷ l) h = ap₂ (λ (x : ℕ) (t : List ℕ). x ∷ t) (kind_word c a (h 0)) (kinds_pad f c k l (λ i. h (suc i)))

-- ---- one record
pub kinds_record : (f : FieldName) (n mirror : ℕ) (e : Entry) → e.index < budgets → high e.distance < values → high mirror < values → ((i : ℕ) → get_or e.ideal.q i 0 < values) → ((i : ℕ) → get_or e.ideal.p i 0 < values) → map kind (record_words (ops f) n mirror e) ≡ record_kinds n
unfolding record_words record_kinds
kinds_record f n mirror e i d m hq hp = λ j. kind_word 5 e.index i j ∷ kind_word 6 (high e.distance) d j ∷ kind_word 7 (low e.distance) (low_less e.distance) j ∷ kind_word 10 (high mirror) m j ∷ kind_word 11 (low mirror) (low_less mirror) j ∷ rest j
  where
    rest : map kind (map (word 8) (pad (ops f) (suc (genus n)) e.ideal.q) ++ map (word 9) (pad (ops f) (genus n) e.ideal.p)) ≡ replicate (suc (genus n)) 8 ++ replicate (genus n) 9
    rest = map-append kind (map (word 8) (pad (ops f) (suc (genus n)) e.ideal.q)) (map (word 9) (pad (ops f) (genus n) e.ideal.p)) ∙ ap₂ (λ (x y : List ℕ). x ++ y) (kinds_pad f 8 (suc (genus n)) e.ideal.q hq) (kinds_pad f 9 (genus n) e.ideal.p hp)

distance_record : (o : Ops ℕ) (n mirror : ℕ) (e : Entry) → high e.distance < values → joined (value (get_or (record_words o n mirror e) 1 0)) (value (get_or (record_words o n mirror e) 2 0)) ≡ e.distance
unfolding record_words
distance_record o n mirror e h = ap₂ joined (value_word 6 (high e.distance) h) (value_word 7 (low e.distance) (low_less e.distance)) ∙ joined_back e.distance

-- ---- the records one after the other
module _ (t : Ticket) (R : ℕ) (even : suc (genus t.n) + suc (genus t.n) ≡ t.n) where
  record_taken : (k j m : ℕ) → k < m → take (t.n + 4) (drop (k * (t.n + 4)) (records_from t R j m)) ≡ record_of t R (j + k)
  unfolding records_from
  record_taken k j zero h = absurd (omega arith)
  record_taken zero j (suc m) h = ap (λ (i : ℕ). take (t.n + 4) (drop i (record_of t R j ++ records_from t R (suc j) m))) (zero-mul (t.n + 4)) ∙ take_at (record_of t R j) (records_from t R (suc j) m) (t.n + 4) (length_one t R even j) ∙ ap (record_of t R) (sym (add-zero j))
  record_taken (suc k) j (suc m) h =
      ap (λ (i : ℕ). take (t.n + 4) (drop i (record_of t R j ++ records_from t R (suc j) m))) (suc-mul k (t.n + 4) ∙ add_comm (k * (t.n + 4)) (t.n + 4))
      ∙ ap (take (t.n + 4)) (sym (drop-drop (k * (t.n + 4)) (t.n + 4) (record_of t R j ++ records_from t R (suc j) m)) ∙ ap (drop (k * (t.n + 4))) (drop_at (record_of t R j) (records_from t R (suc j) m) (t.n + 4) (length_one t R even j)))
      ∙ record_taken k (suc j) m (omega arith)
      ∙ ap (record_of t R) (suc-add j k ∙ sym (add-suc j k))

  module _ (m : ℕ) where
    abbrev l : List ℕ
    l = listing_of t R m

    pub length_listing : length l ≡ m * (t.n + 4)
    unfolding listing_of
    length_listing = length_records t R even 0 m

    pub count_listing : record_count l t.n ≡ m
    unfolding record_count
    count_listing = ap (λ (k : ℕ). k / (t.n + 4)) length_listing ∙ mul-div_cancel m (omega arith)

    pub whole_listing : length l % (t.n + 4) ≡ 0
    whole_listing = ap (λ (k : ℕ). k % (t.n + 4)) length_listing ∙ mul-mod_left m (t.n + 4)

    pub record_listing : (k : ℕ) → k < m → record_at l t.n k ≡ record_of t R k
    unfolding record_at listing_of
    record_listing k h = record_taken k 0 m h ∙ ap (record_of t R) (omega arith)

    word_listing : (k i : ℕ) → k < m → i < t.n + 4 → get_or l (k * (t.n + 4) + i) 0 ≡ get_or (record_of t R k) i 0
    unfolding record_at
    word_listing k i h low = sym (get_or-take (t.n + 4) (drop (k * (t.n + 4)) l) i 0 low ∙ get_or-drop (k * (t.n + 4)) l i 0) ∙ ap (λ (r : List ℕ). get_or r i 0) (record_listing k h)

    pub distance_listing : (k : ℕ) → k < m → high (entry_of t k).distance < values → distance_at l t.n k ≡ (entry_of t k).distance
    unfolding distance_at record_of
    distance_listing k h f = ap₂ (λ (x y : ℕ). joined (value x) (value y)) (word_listing k 1 h (omega arith)) (word_listing k 2 h (omega arith)) ∙ distance_record (ops_of t) t.n _ (entry_of t k) f

    -- ---- the tests of refusal 8
    module _ (fits : (k : ℕ) → k < m → map kind (record_of t R k) ≡ record_kinds t.n) where
      pub kinds_listing : (k : ℕ) → k ≤ m → right_kinds l t.n k ≡ true
      unfolding right_kinds
      kinds_listing zero h = refl
      kinds_listing (suc k) h = rw (kinds_listing k (omega arith)) (ap (λ (r : List ℕ). same (map kind r) (record_kinds t.n)) (record_listing k h) ∙ ap (λ (r : List ℕ). same r (record_kinds t.n)) (fits k h) ∙ same_refl (record_kinds t.n))

    module _ (rise : (k : ℕ) → suc k < m → distance_at l t.n k < distance_at l t.n (suc k)) where
      pub rising_listing : (k : ℕ) → k < m → rising l t.n k ≡ true
      unfolding rising
      rising_listing zero h = refl
      rising_listing (suc k) h = rw (rising_listing k (omega arith)) (lt-ltb _ _ (rise k h))
