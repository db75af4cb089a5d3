-- Words stored part after part are stored at once.
use Rattle.std.specs.Prelude.{ℕ, suc, ◌+◌, ◌-◌, ◌≤◌, ◌≡◌, refl, List, [], ◌∷◌, ◌++◌, length, set, take, drop}
use Rattle.std.proofs.Common.{add-zero, zero-add, add-suc, suc-add, arith, sym, ap, ◌∙◌}
use Rattle.std.proofs.lemmas.List.{drop-drop, length-drop, length-take-le, drop-append-le, take-append-drop, append_assoc}
use Rattle.std.proofs.lemmas.List.Edits.{sets, sets-eq}
use Rattle.std.proofs.Math.Seq.{length-sets}

-- the list l with the words from a place on
unfoldable pub stored : List ℕ → ℕ → List ℕ → List ℕ
stored l at words = sets l at words

pub stored_none : (l : List ℕ) (at : ℕ) → stored l at [] ≡ l
unfolding stored
stored_none l at = refl

pub length_stored : (l : List ℕ) (at : ℕ) (words : List ℕ) → length (stored l at words) ≡ length l
unfolding stored
length_stored l at words = length-sets l at words

pub stored_append : (x y l : List ℕ) (at k : ℕ) → at + length x ≡ k → stored (stored l at x) k y ≡ stored l at (x ++ y)
unfolding stored
stored_append x y l at k e = ap (λ (j : ℕ). sets (sets l at x) j y) (sym e) ∙ go x l at
  where
    go : (x l : List ℕ) (i : ℕ) → sets (sets l i x) (i + length x) y ≡ sets l i (x ++ y)
    go [] l i = ap (λ (k : ℕ). sets l k y) (add-zero i)
    go (a ∷ x) l i = ap (λ (k : ℕ). sets (sets (set l i a) (suc i) x) k y) (add-suc i (length x) ∙ sym (suc-add i (length x))) ∙ go x (set l i a) (suc i)

-- from the first place on
pub stored_first : (words l : List ℕ) (k : ℕ) → length words ≡ k → k ≤ length l → stored l 0 words ≡ words ++ drop k l
unfolding stored
stored_first words l k e h = sets-eq words l 0 (omega arith) ∙ ap (λ (j : ℕ). words ++ drop j l) (zero-add (length words) ∙ e)

-- what is stored from the start of a part of the list on is stored in the list
pub stored_part : (words l : List ℕ) (at k : ℕ) → length words ≤ k → at + k ≤ length l → take at l ++ (stored (take k (drop at l)) 0 words ++ drop k (drop at l)) ≡ stored l at words
unfolding stored
stored_part words l at k short fits =
    let m : List ℕ = drop at l in
    let d : length m ≡ length l - at = length-drop at l in
    let long : length (take k m) ≡ k = length-take-le k m (omega arith) in
    let first : stored (take k m) 0 words ≡ words ++ drop (length words) (take k m) = stored_first words (take k m) (length words) refl (omega arith) in
    let rest : drop (length words) (take k m) ++ drop k m ≡ drop (at + length words) l = sym (drop-append-le (length words) (take k m) (drop k m) (omega arith)) ∙ ap (drop (length words)) (take-append-drop k m) ∙ drop-drop (length words) at l in
    ap (λ (t : List ℕ). take at l ++ t) (ap (λ (t : List ℕ). t ++ drop k m) first ∙ append_assoc words (drop (length words) (take k m)) (drop k m) ∙ ap (λ (t : List ℕ). words ++ t) rest)
    ∙ sym (append_assoc (take at l) words (drop (at + length words) l)) ∙ sym (sets-eq words l at (omega arith))
