-- What the first line of the program's output says: it fixes the outcome, and whoever reads "found R m c" or
-- "spent k e" there may rely on T3.
use Rattle.std.specs.Prelude.{ℕ, refl, Bool, true, false, drop, replicate}
use native.Mathlib.Omega.{arith}
use Rattle.std.proofs.Math.Path.{◌≡◌, ap}
use Rattle.std.proofs.Common.{sym, ◌∙◌, subst}
use mathlib.Core.List.{List, [], ◌∷◌, ◌++◌, append_assoc, append-nil}
use Rattle.std.proofs.Math.ListN.{get_or}
use Rattle.spec_definitions.specs.Ticket.{Ticket, ticket_of}
use Rattle.spec_definitions.specs.Answers.{Outcome, found, spent, refused, Said, said, words_outcome}
use Rattle.spec_definitions.specs.Listing.{ListingAnswer, listing_from, listing_answer}
use Rattle.spec_definitions.specs.Text.{ascii, spaced, line}
use Rattle.spec_definitions.specs.Program.{words_of, read_bytes, cut_word, first_line, answer_lines, program_of}
use Rattle.spec_demands.specs.LeastDegree.{Least}
use Rattle.spec_demands.specs.Numbered.{Numbered}
use Rattle.spec_demands.proofs.Numbered.{numbered, numbered_found, numbered_spent, t1_numbers}
use Rattle.spec_demands.proofs.LeastAnswers.{t3_listing}
use Rattle.listing_found.specs.Answers.{room_cases}
use Rattle.spec_digits.proofs.Digits.{spaced_fixes}
use Rattle.out_answer.proofs.First.{refused_first}
use Rattle.out_program.specs.Program.{program_cut, program_whole}

-- the first line fixes the outcome with each of its numbers, and what stands after the line
abbrev pub FirstLineFixes : Type 0
FirstLineFixes = (x y : Outcome) (r t : List ℕ) → Numbered x → Numbered y → first_line (said x) ++ r ≡ first_line (said y) ++ t → (x ≡ y) × (r ≡ t)

-- T3 of the outcome that the first line of some bytes says, for the ticket of the words w
abbrev pub LeastPrinted : List ℕ → List ℕ → Type 0
LeastPrinted w bytes = (x : Outcome) (rest : List ℕ) → bytes ≡ first_line (said x) ++ rest → Least w x

-- T3 of what the program prints, for the ticket of the words that it reads
abbrev pub T3Program : Type 0
T3Program = (input : List ℕ) → LeastPrinted (words_of (read_bytes input)) (program_of input)

-- ---- the proof: lines with the same word, and lines with different ones
-- the numbers of a line and its end
abbrev after : List ℕ → List ℕ → List ℕ
after l r = (spaced l ++ (10 ∷ [])) ++ r

after_fixes : (a b r t : List ℕ) → after a r ≡ after b t → (a ≡ b) × (r ≡ t)
after_fixes a b r t e = spaced_fixes a b r t (sym (append_assoc (spaced a) (10 ∷ []) r) ∙ e ∙ append_assoc (spaced b) (10 ∷ []) t)

module _ (a b r t : List ℕ) where
  found_line : line (ascii "found") a ++ r ≡ line (ascii "found") b ++ t → (a ≡ b) × (r ≡ t)
  unfolding line ascii
  found_line e = after_fixes a b r t (ap (drop 5) e)

  spent_line : line (ascii "spent") a ++ r ≡ line (ascii "spent") b ++ t → (a ≡ b) × (r ≡ t)
  unfolding line ascii
  spent_line e = after_fixes a b r t (ap (drop 5) e)

  refused_line : line (ascii "refused") a ++ r ≡ line (ascii "refused") b ++ t → (a ≡ b) × (r ≡ t)
  unfolding line ascii
  refused_line e = after_fixes a b r t (ap (drop 7) e)

  found_spent : line (ascii "found") a ++ r ≡ line (ascii "spent") b ++ t → ⊥
  unfolding line ascii
  found_spent e = let z : ◌≡◌ {A = ℕ} 102 115 = ap (λ (l : List ℕ). get_or l 0 0) e in omega arith

  found_refused : line (ascii "found") a ++ r ≡ line (ascii "refused") b ++ t → ⊥
  unfolding line ascii
  found_refused e = let z : ◌≡◌ {A = ℕ} 102 114 = ap (λ (l : List ℕ). get_or l 0 0) e in omega arith

  spent_refused : line (ascii "spent") a ++ r ≡ line (ascii "refused") b ++ t → ⊥
  unfolding line ascii
  spent_refused e = let z : ◌≡◌ {A = ℕ} 115 114 = ap (λ (l : List ℕ). get_or l 0 0) e in omega arith

first_found : (R m c : ℕ) → first_line (said (found R m c)) ≡ line (ascii "found") (R ∷ m ∷ c ∷ [])
unfolding first_line said
first_found R m c = refl

first_spent : (k e : ℕ) → first_line (said (spent k e)) ≡ line (ascii "spent") (k ∷ e ∷ [])
unfolding first_line said
first_spent k e = refl

-- two first lines, each as a line with its word
as_lines : (r t : List ℕ) {x y a b : List ℕ} → x ≡ a → y ≡ b → x ++ r ≡ y ++ t → a ++ r ≡ b ++ t
as_lines r t f g e = ap (λ (l : List ℕ). l ++ r) (sym f) ∙ e ∙ ap (λ (l : List ℕ). l ++ t) g

pub first_line_fixes : FirstLineFixes
first_line_fixes (found R m c) (found R' m' c') r t p q e =
    let s = found_line _ _ r t (as_lines r t (first_found R m c) (first_found R' m' c') e) in
    let z : ◌≡◌ {A = List ℕ} (R ∷ m ∷ c ∷ []) (R' ∷ m' ∷ c' ∷ []) = s.0 in
    (cc, s.1)
first_line_fixes (found R m c) (spent k d) r t p q e = absurd (found_spent _ _ r t (as_lines r t (first_found R m c) (first_spent k d) e))
first_line_fixes (found R m c) (refused j) r t p q e = absurd (found_refused _ _ r t (as_lines r t (first_found R m c) (sym (refused_first j q)) e))
first_line_fixes (spent k d) (found R m c) r t p q e = absurd (found_spent _ _ t r (as_lines t r (first_found R m c) (first_spent k d) (sym e)))
first_line_fixes (spent k d) (spent k' d') r t p q e =
    let s = spent_line _ _ r t (as_lines r t (first_spent k d) (first_spent k' d') e) in
    let z : ◌≡◌ {A = List ℕ} (k ∷ d ∷ []) (k' ∷ d' ∷ []) = s.0 in
    (cc, s.1)
first_line_fixes (spent k d) (refused j) r t p q e = absurd (spent_refused _ _ r t (as_lines r t (first_spent k d) (sym (refused_first j q)) e))
first_line_fixes (refused j) (found R m c) r t p q e = absurd (found_refused _ _ t r (as_lines t r (first_found R m c) (sym (refused_first j p)) (sym e)))
first_line_fixes (refused j) (spent k d) r t p q e = absurd (spent_refused _ _ t r (as_lines t r (first_spent k d) (sym (refused_first j p)) (sym e)))
first_line_fixes (refused j) (refused j') r t p q e =
    let s = refused_line _ _ r t (as_lines r t (sym (refused_first j p)) (sym (refused_first j' q)) e) in
    let z : ◌≡◌ {A = List ℕ} (j ∷ []) (j' ∷ []) = s.0 in
    (cc, s.1)

-- ---- T3 of what is printed
-- what holds of the outcome that is printed holds of the one that is read
read_least : (w : List ℕ) (x y : Outcome) (r t : List ℕ) → Numbered y → Least w y → first_line (said y) ++ t ≡ first_line (said x) ++ r → Least w x
read_least w (found R m c) y r t n h e = subst (Least w) (first_line_fixes y (found R m c) t r n (numbered_found R m c) e).0 h
read_least w (spent k d) y r t n h e = subst (Least w) (first_line_fixes y (spent k d) t r n (numbered_spent k d) e).0 h
read_least w (refused j) y r t n h e = tt

-- an answer of the call `listing` says one of the three outcomes
abbrev Says : ListingAnswer → Type 0
Says a = (x : Outcome) × (a.says ≡ said x)

from_says : (t : Ticket) (x : Outcome) (l : List ℕ) → Says (listing_from t x l)
unfolding listing_from
from_says t (found R m c) l = room_cases Says t R m c l (λ _. (found R m c, refl)) (λ _. (refused 13, refl))
from_says t (spent k e) l = (spent k e, refl)
from_says t (refused j) l = (refused j, refl)

listing_outcome : (w l : List ℕ) → Says (listing_answer w l)
unfolding listing_answer
listing_outcome w l = from_says (ticket_of w) (words_outcome w) l

-- the lines of an answer begin with its first line
answer_begins : (n : ℕ) (a : ListingAnswer) → (t : List ℕ) × (answer_lines n a ≡ first_line a.says ++ t)
unfolding answer_lines
answer_begins n a = (_, refl)

answer_least : (w l : List ℕ) (n : ℕ) → LeastPrinted w (answer_lines n (listing_answer w l))
answer_least w l n x rest e =
    let y = listing_outcome w l in
    let b = answer_begins n (listing_answer w l) in
    read_least w x y.0 rest b.0 (t1_numbers.2 w l y.0 y.1) (t3_listing w l y.0 y.1) (ap (λ (s : Said). first_line s ++ b.0) (sym y.1) ∙ sym b.1 ∙ e)

pub t3_program : T3Program
t3_program input x rest e = go (cut_word (read_bytes input)) refl
  where
    w : List ℕ
    w = words_of (read_bytes input)

    go : (b : Bool) → cut_word (read_bytes input) ≡ b → Least w x
    go true k = read_least w x (refused 1) rest [] (numbered 1 (λ z. omega arith) (λ z. omega arith)) tt (append-nil (first_line (said (refused 1))) ∙ program_cut input k ∙ e)
    go false k = answer_least w (replicate 8192 0) (ticket_of w).n x rest (program_whole input k w refl ∙ e)

-- the bytes printed
pub printed_least : (input : List ℕ) {bytes : List ℕ} → bytes ≡ program_of input → LeastPrinted (words_of (read_bytes input)) bytes
printed_least input {bytes} p = λ x rest f. t3_program input x rest (sym p ∙ f)
