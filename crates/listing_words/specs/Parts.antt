-- The parts of a record: the words of its coefficients, place by place, and the whole of it part after part.
use Rattle.std.specs.Prelude.{ℕ, suc, ◌+◌, ◌-◌, ◌/◌, ◌<◌, ◌≤◌, ◌≡◌, List, [], ◌∷◌, ◌++◌, map, length, get_or, drop}
use Rattle.std.proofs.Common.{arith, sym, ap, ap₂, ◌∙◌, ext_get_or}
use Rattle.std.proofs.lemmas.List.{length-map, length-append, get_or-map, drop-drop, append_assoc}
use Rattle.spec_arithmetic.specs.Field.{modulo}
use Rattle.spec_arithmetic.specs.Polynomials.{pad}
use Rattle.spec_arithmetic.specs.Words.{word, high, low}
use Rattle.spec_definitions.specs.Ticket.{genus}
use Rattle.spec_definitions.specs.Listing.{Entry, record_words}
use Rattle.spec_lists.specs.Pad.{length_pad, pad_at}
use Rattle.listing_words.specs.Stored.{stored, stored_first}

pub coefficient_words : (k kind : ℕ) (c words : List ℕ) → ((i : ℕ) → i < length words → get_or words i 0 ≡ word kind (get_or c i 0)) → words ≡ map (word kind) (pad (modulo k) (length words) c)
coefficient_words k kind c words each = ext_get_or 0 _ _ (sym (length-map (pad (modulo k) (length words) c) (word kind) ∙ length_pad (modulo k) (length words) c)) (λ i h. each i h ∙ sym (get_or-map (word kind) (pad (modulo k) (length words) c) i 0 0 (let e = length_pad (modulo k) (length words) c in omega arith) ∙ ap (word kind) (pad_at (modulo k) (length words) c i h)))

module _ (k n mirror : ℕ) (e : Entry) (two : 2 ≤ n) where
  q : List ℕ
  q = map (word 8) (pad (modulo k) (suc (n / 2 - 1)) e.ideal.q)

  p : List ℕ
  p = map (word 9) (pad (modulo k) (n / 2 - 1) e.ideal.p)

  pub length_record_words : length (record_words (modulo k) n mirror e) ≡ 5 + (n / 2 + (n / 2 - 1))
  unfolding record_words genus q p
  length_record_words =
      let long_q : length q ≡ suc (n / 2 - 1) = length-map (pad (modulo k) (suc (n / 2 - 1)) e.ideal.q) (word 8) ∙ length_pad (modulo k) (suc (n / 2 - 1)) e.ideal.q in
      let long_p : length p ≡ n / 2 - 1 = length-map (pad (modulo k) (n / 2 - 1) e.ideal.p) (word 9) ∙ length_pad (modulo k) (n / 2 - 1) e.ideal.p in
      let long : length (q ++ p) ≡ n / 2 + (n / 2 - 1) = (let w = length-append q p in omega arith) in
      omega (arith, long)

  module _ (l : List ℕ) where
    -- the parts of a record, one after the other, are the record stored at the start of the list
    pub put_parts : (first of_q of_p rest : List ℕ) → n + 4 ≤ length l
        → first ≡ (word 5 e.index ∷ word 6 (high e.distance) ∷ word 7 (low e.distance) ∷ word 10 (high mirror) ∷ word 11 (low mirror) ∷ [])
        → of_q ≡ map (word 8) (pad (modulo k) (n / 2) e.ideal.q) → of_p ≡ map (word 9) (pad (modulo k) (n / 2 - 1) e.ideal.p) → rest ≡ drop (n / 2) (drop 5 l)
        → first ++ (of_q ++ (of_p ++ drop (n / 2 - 1) rest)) ≡ stored l 0 (record_words (modulo k) n mirror e)
    unfolding record_words genus q p
    put_parts first of_q of_p rest fits first_is q_is p_is rest_is =
        let h : ℕ = n / 2 in
        let half : suc (h - 1) ≡ h = omega arith in
        let of_q_is : of_q ≡ q = q_is ∙ ap (λ (i : ℕ). map (word 8) (pad (modulo k) i e.ideal.q)) (sym half) in
        let left : drop (h - 1) rest ≡ drop (5 + (h + (h - 1))) l = ap (drop (h - 1)) rest_is ∙ drop-drop (h - 1) h (drop 5 l) ∙ drop-drop (h + (h - 1)) 5 l in
        ap₂ (λ (a b : List ℕ). a ++ b) first_is (ap₂ (λ (a b : List ℕ). a ++ b) of_q_is (ap₂ (λ (a b : List ℕ). a ++ b) p_is left) ∙ sym (append_assoc q p (drop (5 + (h + (h - 1))) l)))
        ∙ sym (stored_first (record_words (modulo k) n mirror e) l (5 + (h + (h - 1))) length_record_words (omega arith))
