-- The call `unit`: its outcome, and its four lent lists at exit.
use Rattle.std.specs.Prelude.{ℕ, suc, Bool, true, false, ◌&&◌, List, [], ◌++◌, leb, length, drop}
use Rattle.spec_arithmetic.specs.Polynomials.{pad}
use Rattle.spec_definitions.specs.Ticket.{Ticket, ticket_of}
use Rattle.spec_definitions.specs.Walk.{unit_of}
use Rattle.spec_definitions.specs.Answers.{Outcome, found, spent, refused, Said, said, ops_of, root_of, words_outcome}

-- "Four lent lists of 32-bit numbers"
pub record Lists : Type 0 where
  pub first : List ℕ
  pub second : List ℕ
  pub third : List ℕ
  pub fourth : List ℕ

pub record UnitAnswer : Type 0 where
  pub says : Said
  pub lists : Lists

-- "12: the unit is wanted and one of its four lists has fewer than R+1 places"
unfoldable pub long_enough : ℕ → Lists → Bool
long_enough k l = leb k (length l.first) && leb k (length l.second) && leb k (length l.third) && leb k (length l.fourth)

module _ (t : Ticket) where
  -- "in places 0 to R, constant term first, zeros above the degree .. Later places keep what they had": here
  -- k is R+1
  unfoldable pub written : ℕ → List ℕ → List ℕ → List ℕ
  written k l old = pad (ops_of t) k l ++ drop k old

  -- "The first receives p, the second s .. In the other two, places 0 to R end as zero."
  unfoldable pub unit_lists : ℕ → ℕ → Lists → Lists
  unit_lists R m l =
      let u = unit_of (ops_of t) t.D (root_of t) m in
      record {
        first = written (suc R) u.p l.first;
        second = written (suc R) u.s l.second;
        third = written (suc R) [] l.third;
        fourth = written (suc R) [] l.fourth;
      }

  -- "Lent lists keep every word" where the answer is a refusal
  unfoldable pub unit_from : Outcome → Lists → UnitAnswer
  unit_from (found R m c) l = elim (long_enough (suc R) l) [ true ↦ record { says = said (found R m c); lists = unit_lists R m l } | false ↦ record { says = said (refused 12); lists = l } ]
  unit_from (spent k e) l = record { says = said (spent k e); lists = l }
  unit_from (refused j) l = record { says = said (refused j); lists = l }

-- the call `unit`
unfoldable pub unit_answer : List ℕ → Lists → UnitAnswer
unit_answer w l = unit_from (ticket_of w) (words_outcome w) l
