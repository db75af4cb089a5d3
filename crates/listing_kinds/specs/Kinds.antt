-- The kinds of a record's words, place by place: they are a list of n + 4 numbers, and the test of a whole
-- record is the test of each place.
use Prim.Native.Nat.{ℕ, zero, suc, ◌+◌, ◌-◌, ◌/◌, ◌<◌, ◌≤◌}
use native.Mathlib.Omega.{arith}
use Rattle.std.specs.Prelude.{◌≡◌, Bool, true, false, List, ◌++◌, map, replicate, MatchBool}
use Rattle.std.proofs.Math.Path.{sym, ap}
use Rattle.std.proofs.Common.{◌∙◌}
use Rattle.std.proofs.Math.ListN.{length, get_or, length-append, length-replicate, get_or-replicate, get_or-append}
use Rattle.std.proofs.Math.Seq.{get_or-append-add}
use Rattle.spec_arithmetic.specs.Words.{kind, same}
use Rattle.spec_definitions.specs.Ticket.{wrong_degree, genus}
use Rattle.spec_definitions.specs.Lookup.{record_kinds}
use Rattle.spec_lists.specs.Kinds.{kinds_right, kinds_wrong}
use Rattle.spec_laws.specs.Degrees.{Allowed, allowed}

module _ (n : ℕ) (h : wrong_degree n ≡ false) where
  coefficients : List ℕ
  coefficients = replicate (suc (genus n)) 8 ++ replicate (genus n) 9

  length_eights : length (replicate {A = ℕ} (suc (genus n)) 8) ≡ n / 2
  unfolding genus
  length_eights = length-replicate {A = ℕ} (suc (genus n)) 8 ∙ (let a : Allowed n = allowed n h in omega arith)

  pub length_record_kinds : length (record_kinds n) ≡ n + 4
  unfolding record_kinds genus coefficients
  length_record_kinds =
      let a : Allowed n = allowed n h in
      let e : length coefficients ≡ length (replicate {A = ℕ} (suc (genus n)) 8) + length (replicate {A = ℕ} (genus n) 9) = length-append (replicate (suc (genus n)) 8) (replicate (genus n) 9) in
      let f : length (replicate {A = ℕ} (genus n) 9) ≡ genus n = length-replicate {A = ℕ} (genus n) 9 in
      let g : length (replicate {A = ℕ} (suc (genus n)) 8) ≡ n / 2 = length_eights in
      omega arith

  -- past the index, the distance and the mirror: the coefficients of Q, and those of P
  at_coefficients : (j : ℕ) → 5 ≤ j → get_or (record_kinds n) j 0 ≡ get_or coefficients (j - 5) 0
  unfolding record_kinds coefficients
  at_coefficients zero m = absurd (omega arith)
  at_coefficients (suc zero) m = absurd (omega arith)
  at_coefficients (suc (suc zero)) m = absurd (omega arith)
  at_coefficients (suc (suc (suc zero))) m = absurd (omega arith)
  at_coefficients (suc (suc (suc (suc zero)))) m = absurd (omega arith)
  at_coefficients (suc (suc (suc (suc (suc j))))) m = let e : j ≡ suc (suc (suc (suc (suc j)))) - 5 = omega arith in ap (λ (i : ℕ). get_or coefficients i 0) e

  pub kind_q : (j : ℕ) → 5 ≤ j → j < 5 + n / 2 → get_or (record_kinds n) j 0 ≡ 8
  unfolding coefficients genus
  kind_q j m k =
      let e : length (replicate {A = ℕ} (suc (genus n)) 8) ≡ n / 2 = length_eights in
      let a : Allowed n = allowed n h in
      at_coefficients j m
      ∙ get_or-append (replicate (suc (genus n)) 8) (replicate (genus n) 9) 0 (j - 5) (omega arith)
      ∙ get_or-replicate (suc (genus n)) (j - 5) 8 0 (omega arith)

  pub kind_p : (j : ℕ) → 5 + n / 2 ≤ j → j < n + 4 → get_or (record_kinds n) j 0 ≡ 9
  unfolding coefficients genus
  kind_p j m k =
      let e : length (replicate {A = ℕ} (suc (genus n)) 8) ≡ n / 2 = length_eights in
      let a : Allowed n = allowed n h in
      at_coefficients j (omega arith)
      ∙ ap (λ (i : ℕ). get_or coefficients i 0) (let w : j - 5 ≡ length (replicate {A = ℕ} (suc (genus n)) 8) + (j - 5 - n / 2) = omega arith in w)
      ∙ get_or-append-add (replicate (suc (genus n)) 8) (replicate (genus n) 9) (j - 5 - n / 2) 0
      ∙ get_or-replicate (genus n) (j - 5 - n / 2) 9 0 (omega arith)

-- the words of a record have its kinds
unfoldable pub has_kinds : List ℕ → ℕ → Bool
has_kinds words n = same (map kind words) (record_kinds n)

pub has_kinds_by_place : (words : List ℕ) (n : ℕ) (r : Bool) → wrong_degree n ≡ false → length words ≡ n + 4
    → MatchBool r ((k : ℕ) → k < length words → kind (get_or words k 0) ≡ get_or (record_kinds n) k 0) ((k : ℕ) × (k < length words) × (kind (get_or words k 0) ≡ get_or (record_kinds n) k 0 → ⊥))
    → r ≡ has_kinds words n
unfolding has_kinds
has_kinds_by_place words n true h e all = sym (kinds_right words (record_kinds n) (e ∙ sym (length_record_kinds n h)) all)
has_kinds_by_place words n false h e (k, _, wrong) = sym (kinds_wrong words (record_kinds n) k wrong)
