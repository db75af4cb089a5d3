-- A record of a listing has n + 4 words, and m records have m times as many.
use Prim.Native.Nat.{ℕ, zero, suc, ◌+◌, ◌*◌}
use Rattle.std.proofs.Common.{zero-mul, suc-mul, arith, ◌∙◌}
use Rattle.std.proofs.Math.Nat.{add_comm}
use Rattle.std.specs.Prelude.{◌≡◌, List, ◌++◌, map, length}
use Rattle.std.proofs.Math.Path.{sym, ap₂}
use Rattle.std.proofs.Math.ListN.{length-append}
use Rattle.std.proofs.lemmas.List.{length-map}
use Rattle.spec_arithmetic.specs.Field.{Ops}
use Rattle.spec_arithmetic.specs.Polynomials.{pad}
use Rattle.spec_arithmetic.specs.Words.{word}
use Rattle.spec_definitions.specs.Ticket.{Ticket, genus}
use Rattle.spec_definitions.specs.Answers.{ops_of}
use Rattle.spec_definitions.specs.Listing.{Entry, record_words, record_of, records_from}
use Rattle.spec_lists.specs.Pad.{length_pad}

pub length_record : (o : Ops ℕ) (n mirror : ℕ) (e : Entry) → suc (genus n) + suc (genus n) ≡ n → length (record_words o n mirror e) ≡ n + 4
unfolding record_words
length_record o n mirror e even =
    let x : List ℕ = map (word 8) (pad o (suc (genus n)) e.ideal.q) in
    let y : List ℕ = map (word 9) (pad o (genus n) e.ideal.p) in
    let s : length (x ++ y) ≡ length x + length y = length-append x y in
    let k : length x ≡ suc (genus n) = length-map (pad o (suc (genus n)) e.ideal.q) (word 8) ∙ length_pad o (suc (genus n)) e.ideal.q in
    let l : length y ≡ genus n = length-map (pad o (genus n) e.ideal.p) (word 9) ∙ length_pad o (genus n) e.ideal.p in
    omega arith

module _ (t : Ticket) (R : ℕ) (even : suc (genus t.n) + suc (genus t.n) ≡ t.n) where
  pub length_one : (j : ℕ) → length (record_of t R j) ≡ t.n + 4
  unfolding record_of
  length_one j = length_record (ops_of t) t.n _ _ even

  pub length_records : (j m : ℕ) → length (records_from t R j m) ≡ m * (t.n + 4)
  unfolding records_from
  length_records j zero = sym (zero-mul (t.n + 4))
  length_records j (suc m) = length-append (record_of t R j) (records_from t R (suc j) m) ∙ ap₂ ◌+◌ (length_one j) (length_records (suc j) m) ∙ add_comm (t.n + 4) (m * (t.n + 4)) ∙ sym (suc-mul m (t.n + 4))
