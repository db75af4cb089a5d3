-- The answer of the call `listing`, case by case of the outcome.
use Rattle.std.specs.Prelude.{ℕ, ◌≡◌, refl, List}
use Rattle.std.proofs.Common.{arith, sym}
use Rattle.std.proofs.Math.Path.{subst}
use Rattle.spec_definitions.specs.Ticket.{Ticket, ticket_of}
use Rattle.spec_definitions.specs.Answers.{Outcome, found, spent, refused, words_outcome}
use Rattle.spec_definitions.specs.Listing.{listing_from, listing_answer}
use Rattle.walk_run.specs.Found.{NotFound}
use Rattle.listing_found.specs.Answers.{Answers}

-- an outcome that is not found is the answer, and the list keeps every word
pub kept : (t : Ticket) (x : Outcome) (l : List ℕ) → NotFound x → Answers (listing_from t x l) x l
unfolding listing_from
kept t (found R m c) l h = absurd (h R m c refl)
kept t (spent k e) l h = record { says = refl; list = refl }
kept t (refused j) l h = record { says = refl; list = refl }

pub kept_refused : (t : Ticket) (x : Outcome) (j : ℕ) (l : List ℕ) → x ≡ refused j → Answers (listing_from t x l) x l
kept_refused t x j l e = kept t x l (λ R m c f. let v : ◌≡◌ {A = ℕ} 0 1 = cc in omega arith)

-- the outcome goes by its meaning
pub from_outcome : (t : Ticket) (l : List ℕ) (x y z : Outcome) {out : List ℕ} → x ≡ z → Answers (listing_from t x l) y out → Answers (listing_from t z l) y out
from_outcome t l x y z {out} e a = subst (λ (o : Outcome). Answers (listing_from t o l) y out) e a

module _ (w l : List ℕ) where
  pub words_answer : (t : Ticket) (x y : Outcome) (out : List ℕ) → ticket_of w ≡ t → x ≡ words_outcome w → Answers (listing_from t x l) y out → Answers (listing_answer w l) y out
  unfolding listing_answer
  words_answer t x y out e f a = subst (λ (s : Ticket). Answers (listing_from s (words_outcome w) l) y out) (sym e) (subst (λ (z : Outcome). Answers (listing_from t z l) y out) f a)
