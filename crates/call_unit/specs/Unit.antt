-- The answer of the call `unit`, case by case of the outcome, and T3 of the lists that it writes.
use Rattle.std.specs.Prelude.{ℕ, ◌≡◌, refl, List}
use Rattle.std.proofs.Common.{arith, sym}
use Rattle.std.proofs.Math.Path.{subst}
use Rattle.spec_definitions.specs.Ticket.{Ticket, ticket_of}
use Rattle.spec_definitions.specs.Answers.{Outcome, found, spent, refused, words_outcome}
use Rattle.spec_definitions.specs.Units.{Lists, unit_from, unit_answer}
use Rattle.spec_demands.specs.LeastAnswers.{LeastWritten}
use Rattle.spec_demands.proofs.LeastAnswers.{t3_written}
use Rattle.walk_run.specs.Found.{NotFound}
use Rattle.unit_found.specs.Answers.{Answers}

-- an outcome that is not found is the answer, and every list keeps every place
pub kept : (t : Ticket) (x : Outcome) (l : Lists) → NotFound x → Answers (unit_from t x l) x l
unfolding unit_from
kept t (found R m c) l h = absurd (h R m c refl)
kept t (spent k e) l h = record { says = refl; lists_are = refl }
kept t (refused j) l h = record { says = refl; lists_are = refl }

pub kept_refused : (t : Ticket) (x : Outcome) (j : ℕ) (l : Lists) → x ≡ refused j → Answers (unit_from t x l) x l
kept_refused t x j l e = kept t x l (λ R m c f. let v : ◌≡◌ {A = ℕ} 0 1 = cc in omega arith)

-- the outcome goes by its meaning
pub from_outcome : (t : Ticket) (l : Lists) (x y z : Outcome) {out : Lists} → x ≡ z → Answers (unit_from t x l) y out → Answers (unit_from t z l) y out
from_outcome t l x y z {out} e a = subst (λ (o : Outcome). Answers (unit_from t o l) y out) e a

module _ (w : List ℕ) (l : Lists) where
  pub words_answer : (t : Ticket) (x y : Outcome) (out : Lists) → ticket_of w ≡ t → x ≡ words_outcome w → Answers (unit_from t x l) y out → Answers (unit_answer w l) y out
  unfolding unit_answer
  words_answer t x y out e f a = subst (λ (s : Ticket). Answers (unit_from s (words_outcome w) l) y out) (sym e) (subst (λ (z : Outcome). Answers (unit_from t z l) y out) f a)

  pub least_written : (x : Outcome) (out : Lists) → Answers (unit_answer w l) x out → LeastWritten w x out
  least_written x out a = subst (LeastWritten w x) (sym a.lists_are) (t3_written w l x (sym a.says))
