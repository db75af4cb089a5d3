-- The lines of a list's records, one after the other: those of the records left, after those written.
use Rattle.std.specs.Prelude.{ℕ, zero, suc, ◌+◌, ◌*◌, ◌<◌, ◌≤◌, ◌≡◌, refl, List, ◌++◌, length, take, drop}
use Rattle.std.proofs.Common.{arith, sym, ap, ap₂, ◌∙◌, suc-mul, append_assoc, append-nil, length-append, length-drop, length-take-le, take-append-drop}
use Rattle.std.proofs.Math.Seq.{drop-append-add, take-append_seam}
use Rattle.spec_definitions.specs.Lookup.{record_at}
use Rattle.spec_definitions.specs.Program.{record_line, record_lines}

module _ (n : ℕ) where
  -- behind a record, those of the rest of a list
  record_behind : (w r : List ℕ) (j : ℕ) → length w ≡ n + 4 → record_at (w ++ r) n (suc j) ≡ record_at r n j
  unfolding record_at
  record_behind w r j h =
      let e : suc j * (n + 4) ≡ length w + j * (n + 4) = omega (arith, suc-mul j (n + 4)) in
      ap (λ (k : ℕ). take (n + 4) (drop k (w ++ r))) e ∙ ap (take (n + 4)) (drop-append-add w r (j * (n + 4)))

  lines_behind : (w r : List ℕ) (j k : ℕ) → length w ≡ n + 4 → record_lines (w ++ r) n (suc j) k ≡ record_lines r n j k
  unfolding record_lines
  lines_behind w r j zero h = refl
  lines_behind w r j (suc k) h = ap₂ (λ (x y : List ℕ). record_line x ++ y) (record_behind w r j h) (lines_behind w r (suc j) k h)

  first_record : (w r : List ℕ) → length w ≡ n + 4 → record_at (w ++ r) n 0 ≡ w
  unfolding record_at
  first_record w r h =
      let e : 0 * (n + 4) ≡ 0 = omega arith in
      ap (λ (k : ℕ). take (n + 4) (drop k (w ++ r))) e ∙ ap (λ (k : ℕ). take k (w ++ r)) (sym h) ∙ take-append_seam w r

  lines_front : (w r : List ℕ) (k : ℕ) → length w ≡ n + 4 → record_lines (w ++ r) n 0 (suc k) ≡ record_line w ++ record_lines r n 0 k
  unfolding record_lines
  lines_front w r k h = ap₂ (λ (x y : List ℕ). record_line x ++ y) (first_record w r h) (lines_behind w r 0 k h)

  -- what stands after the records does not matter
  lines_before : (a b : List ℕ) (k : ℕ) → length a ≡ k * (n + 4) → record_lines (a ++ b) n 0 k ≡ record_lines a n 0 k
  unfolding record_lines
  lines_before a b zero h = refl
  lines_before a b (suc k) h =
      let s : suc k * (n + 4) ≡ k * (n + 4) + (n + 4) = suc-mul k (n + 4) in
      let w : List ℕ = take (n + 4) a in
      let r : List ℕ = drop (n + 4) a in
      let e : w ++ r ≡ a = take-append-drop (n + 4) a in
      let m : length w ≡ n + 4 = length-take-le (n + 4) a (omega arith) in
      let q : length r ≡ k * (n + 4) = omega (arith, length-drop (n + 4) a) in
      ap (λ (l : List ℕ). record_lines (l ++ b) n 0 (suc k)) (sym e)
      ∙ ap (λ (l : List ℕ). record_lines l n 0 (suc k)) (append_assoc w r b)
      ∙ lines_front w (r ++ b) k m
      ∙ ap (λ (l : List ℕ). record_line w ++ l) (lines_before r b k q)
      ∙ sym (lines_front w r k m)
      ∙ ap (λ (l : List ℕ). record_lines l n 0 (suc k)) e

  -- a text with the lines of some records, and the whole records left of a list: together all that is to be written
  pub record Left (text rest all : List ℕ) : Type 0 where
    pub count : ℕ
    pub whole : length rest ≡ count * (n + 4)
    pub lines : text ++ record_lines rest n 0 count ≡ all

  pub left_all : (text list rest : List ℕ) (count : ℕ) → count * (n + 4) ≤ length list → rest ≡ take (count * (n + 4)) list → Left text rest (text ++ record_lines list n 0 count)
  left_all text list rest count h e =
      let m : length rest ≡ count * (n + 4) = ap length e ∙ length-take-le (count * (n + 4)) list h in
      record {
        count = count;
        whole = m;
        lines = ap (λ (l : List ℕ). text ++ l) (sym (lines_before rest (drop (count * (n + 4)) list) count m) ∙ ap (λ (l : List ℕ). record_lines l n 0 count) (ap (λ (l : List ℕ). l ++ drop (count * (n + 4)) list) e ∙ take-append-drop (count * (n + 4)) list));
      }

  pub left_more : {text rest all r after : List ℕ} (w : List ℕ) → Left text rest all → after ≡ text ++ record_line w → rest ≡ w ++ r → length w ≡ n + 4 → Left after r all
  left_more {text} {rest} {all} {r} {after} w p b e h = go p.count p.whole p.lines
    where
      go : (k : ℕ) → length rest ≡ k * (n + 4) → text ++ record_lines rest n 0 k ≡ all → Left after r all
      go zero f g = absurd (omega (arith, ap length e, length-append w r))
      go (suc k) f g =
          record {
            count = k;
            whole = omega (arith, ap length e, length-append w r, suc-mul k (n + 4));
            lines =
                ap (λ (l : List ℕ). l ++ record_lines r n 0 k) b
                ∙ append_assoc text (record_line w) (record_lines r n 0 k)
                ∙ ap (λ (l : List ℕ). text ++ l) (sym (lines_front w r k h) ∙ ap (λ (l : List ℕ). record_lines l n 0 (suc k)) (sym e))
                ∙ g;
          }

  pub left_none : {text rest all : List ℕ} → Left text rest all → length rest < n + 4 → text ≡ all
  unfolding record_lines
  left_none {text} {rest} {all} p h = go p.count p.whole p.lines
    where
      go : (k : ℕ) → length rest ≡ k * (n + 4) → text ++ record_lines rest n 0 k ≡ all → text ≡ all
      go zero f g = sym (append-nil text) ∙ g
      go (suc k) f g = absurd (omega (arith, suc-mul k (n + 4)))
