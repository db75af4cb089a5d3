-- The lines of an answer and of the program, case by case.
use Rattle.std.specs.Prelude.{ℕ, ◌≡◌, Bool, eqb, get_or, replicate}
use Rattle.std.proofs.Common.{sym, ◌∙◌, ne_eqb}
use Rattle.std.proofs.Math.Path.{refl, ap}
use Rattle.std.proofs.Math.Bool.{true, false}
use mathlib.Core.List.{List, [], ◌++◌, append-nil}
use Rattle.spec_definitions.specs.Ticket.{ticket_of}
use Rattle.spec_definitions.specs.Answers.{Outcome, found, spent, refused, Said, said}
use Rattle.spec_definitions.specs.Listing.{ListingAnswer, listing_answer}
use Rattle.spec_definitions.specs.Program.{words_of, read_bytes, cut_word, first_line, record_lines, answer_lines, program_of}
use Rattle.spec_demands.specs.Numbered.{Numbered}

module _ (n : ℕ) (list : List ℕ) where
  abbrev lines : Said → List ℕ
  lines s = first_line s ++ (elim (eqb s.number 0) [ true ↦ record_lines list n 0 (get_or s.values 1 0) | false ↦ [] ])

  lines_found : (R m c : ℕ) → lines (said (found R m c)) ≡ first_line (said (found R m c)) ++ record_lines list n 0 m
  unfolding said
  lines_found R m c = refl

  lines_other : (x : Outcome) → Numbered x → ((R m c : ℕ) → x ≡ found R m c → ⊥) → lines (said x) ≡ first_line (said x)
  unfolding said
  lines_other (found R m c) h o = absurd (o R m c refl)
  lines_other (spent k e) h o = append-nil (first_line (said (spent k e)))
  lines_other (refused j) h o = ap (λ (b : Bool). first_line (said (refused j)) ++ (elim b [ true ↦ record_lines list n 0 0 | false ↦ [] ])) (ne_eqb j 0 (λ e. h.not_zero (ap refused e))) ∙ append-nil (first_line (said (refused j)))

-- an answer that is found
pub answer_found : (n d : ℕ) (r : ListingAnswer) (x : Outcome) (R m c : ℕ) (list : List ℕ) → d ≡ n → x ≡ found R m c → said x ≡ r.says → list ≡ r.list → first_line (said x) ++ record_lines list d 0 m ≡ answer_lines n r
unfolding answer_lines
answer_found n d r x R m c list k o e f =
    ap (λ (i : ℕ). first_line (said x) ++ record_lines list i 0 m) k
    ∙ ap (λ (y : Outcome). first_line (said y) ++ record_lines list n 0 m) o
    ∙ sym (lines_found n list R m c)
    ∙ ap (lines n list) (ap said (sym o) ∙ e)
    ∙ ap (λ (l : List ℕ). lines n l r.says) f

-- any other
pub answer_other : (n : ℕ) (r : ListingAnswer) (x : Outcome) → said x ≡ r.says → Numbered x → ((R m c : ℕ) → x ≡ found R m c → ⊥) → first_line (said x) ≡ answer_lines n r
unfolding answer_lines
answer_other n r x e h o = sym (lines_other n r.list x h o) ∙ ap (lines n r.list) e

module _ (input : List ℕ) where
  abbrev printed : Bool → List ℕ
  printed b = elim b [ true ↦ first_line (said (refused 1)) | false ↦ answer_lines (ticket_of (words_of (read_bytes input))).n (listing_answer (words_of (read_bytes input)) (replicate 8192 0)) ]

  pub program_cut : cut_word (read_bytes input) ≡ true → first_line (said (refused 1)) ≡ program_of input
  unfolding program_of
  program_cut e = ap printed (sym e)

  pub program_whole : cut_word (read_bytes input) ≡ false → (w : List ℕ) → w ≡ words_of (read_bytes input) → answer_lines (ticket_of w).n (listing_answer w (replicate 8192 0)) ≡ program_of input
  unfolding program_of
  program_whole e w f = ap (λ (v : List ℕ). answer_lines (ticket_of v).n (listing_answer v (replicate 8192 0))) f ∙ ap printed (sym e)
