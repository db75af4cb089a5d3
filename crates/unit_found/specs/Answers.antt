-- The answer of the call `unit` where a walk is found: with lists that are long enough, and with others.
use Rattle.std.specs.Prelude.{ℕ, suc, ◌≡◌, Bool, true, false}
use Rattle.std.proofs.Math.Path.{refl, subst}
use Rattle.std.proofs.Common.{sym}
use Rattle.spec_definitions.specs.Ticket.{Ticket}
use Rattle.spec_definitions.specs.Answers.{Outcome, found, refused, said}
use Rattle.spec_definitions.specs.Units.{Lists, UnitAnswer, long_enough, unit_lists, unit_from}

-- what a call says and leaves in its lists is the answer a
pub record Answers (a : UnitAnswer) (x : Outcome) (l : Lists) : Type 0 where
  pub says : said x ≡ a.says
  pub lists_are : l ≡ a.lists

module _ (t : Ticket) (R m c : ℕ) (l : Lists) where
  abbrev answer : Bool → UnitAnswer
  answer x = elim x [ true ↦ record { says = said (found R m c); lists = unit_lists t R m l } | false ↦ record { says = said (refused 12); lists = l } ]

  pub long_lists : (out : Lists) → long_enough (suc R) l ≡ true → out ≡ unit_lists t R m l → Answers (unit_from t (found R m c) l) (found R m c) out
  unfolding unit_from
  long_lists out h e = subst (λ (x : Bool). Answers (answer x) (found R m c) out) (sym h) (record { says = refl; lists_are = e })

  pub short_lists : long_enough (suc R) l ≡ false → Answers (unit_from t (found R m c) l) (refused 12) l
  unfolding unit_from
  short_lists h = subst (λ (x : Bool). Answers (answer x) (refused 12) l) (sym h) (record { says = refl; lists_are = refl })
