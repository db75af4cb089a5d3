-- The proofs of specs/Least.
use Rattle.std.specs.Prelude.{ℕ, ◌<◌, ◌≡◌}
use Rattle.std.proofs.Common.{arith, sym, ap, ◌∙◌}
use Rattle.std.proofs.Math.Path.{subst}
use mathlib.Core.List.{List}
use Rattle.spec_arithmetic.specs.Field.{ops}
use Rattle.spec_arithmetic.specs.Polynomials.{deg}
use Rattle.spec_definitions.specs.Ticket.{ticket_of}
use Rattle.spec_definitions.specs.Walk.{Unit as UnitPair, unit_of}
use Rattle.spec_definitions.specs.Answers.{Outcome, found, spent, refused, said, root_of}
use Rattle.spec_definitions.specs.Units.{Lists}
use Rattle.spec_demands.specs.LeastDegree.{Solves, LeastFound, Least}
use Rattle.spec_demands.specs.Written.{unit_in}
use Rattle.spec_demands.specs.Numbered.{Numbered}
use Rattle.spec_demands.specs.LeastAnswers.{LeastWritten}
use Rattle.out_numbers.specs.Numbers.{Plain}
use Rattle.out_numbers.specs.Least.{LeastNumbers, LeastPlain, LeastInLists}

-- ---- the proof, case by case of the outcome
module _ (w : List ℕ) {number first second third : ℕ} where
  numbers_found : (u : ℕ → ℕ → UnitPair ℕ) (R m c : ℕ) → Plain (said (found R m c)) number first second third → LeastFound (ticket_of w).field (ticket_of w).D (u R m) R c → LeastNumbers w (u first second) number first second third
  unfolding said
  numbers_found u R m c p h =
      let z : number ≡ 0 = p.number_is in
      record {
        if_found = λ _.
            subst (λ (k : ℕ). LeastFound (ticket_of w).field (ticket_of w).D (u first second) first k) (sym p.third_is)
            (subst (λ (k : ℕ). LeastFound (ticket_of w).field (ticket_of w).D (u first k) first c) (sym p.second_is)
            (subst (λ (k : ℕ). LeastFound (ticket_of w).field (ticket_of w).D (u k m) k c) (sym p.first_is) h));
        if_spent = λ e. absurd (omega arith);
      }

  numbers_spent : (u : UnitPair ℕ) (k e : ℕ) → Plain (said (spent k e)) number first second third → Least w (spent k e) → LeastNumbers w u number first second third
  unfolding said
  numbers_spent u k e p h =
      let z : number ≡ 11 = p.number_is in
      record {
        if_found = λ f. absurd (omega arith);
        if_spent = λ _. subst (λ (i : ℕ). (p s : List ℕ) → Solves (ticket_of w).field (ticket_of w).D p s → i < deg (ops (ticket_of w).field) p) (sym p.second_is) h;
      }

  numbers_refused : (u : UnitPair ℕ) (j : ℕ) → Numbered (refused j) → Plain (said (refused j)) number first second third → LeastNumbers w u number first second third
  unfolding said
  numbers_refused u j n p = record {
    if_found = λ e. absurd (n.not_zero (ap refused (sym p.number_is ∙ e)));
    if_spent = λ e. absurd (n.not_eleven (ap refused (sym p.number_is ∙ e)));
  }

  pub least_plain : (x : Outcome) → Numbered x → Plain (said x) number first second third → Least w x → LeastPlain w number first second third
  least_plain (found R m c) n p h = numbers_found (λ _ i. unit_of (ops (ticket_of w).field) (ticket_of w).D (root_of (ticket_of w)) i) R m c p h
  least_plain (spent k e) n p h = numbers_spent _ k e p h
  least_plain (refused j) n p h = numbers_refused _ j n p

  pub least_in_lists : (l : Lists) (x : Outcome) → Numbered x → Plain (said x) number first second third → LeastWritten w x l → LeastInLists w l number first second third
  least_in_lists l (found R m c) n p h = numbers_found (λ k _. unit_in k l) R m c p h
  least_in_lists l (spent k e) n p h = numbers_spent _ k e p h
  least_in_lists l (refused j) n p h = numbers_refused _ j n p
