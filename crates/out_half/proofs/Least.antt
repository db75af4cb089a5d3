-- The proofs of specs/Least.
use Rattle.std.specs.Prelude.{ℕ, List}
use Rattle.std.proofs.Common.{arith, sym, ap, ap₂, ◌∙◌, subst}
use Rattle.spec_half.specs.Half.{HalfOutcome, half_found, half_spent, half_refused, half_said}
use Rattle.spec_half.specs.HalfWalk.{LeastHalf, HalfNumbered}
use Rattle.out_numbers.specs.Numbers.{Plain}
use Rattle.out_half.specs.Least.{LeastHalfPlain}

-- ---- the proof, case by case of the outcome
pub least_half_plain : (w : List ℕ) {number first second third : ℕ} (x : HalfOutcome) → HalfNumbered x → Plain (half_said x) number first second third → LeastHalf w x → LeastHalfPlain w number first second
unfolding half_said
least_half_plain w (half_found R m) n p h = record {
  if_found = λ _. subst (LeastHalf w) (ap₂ half_found (sym p.first_is) (sym p.second_is)) h;
  if_spent = λ e. let z = p.number_is in absurd (omega arith);
}
least_half_plain w (half_spent k e) n p h = record {
  if_found = λ f. let z = p.number_is in absurd (omega arith);
  if_spent = λ _. subst (LeastHalf w) (ap₂ half_spent (sym p.first_is) (sym p.second_is)) h;
}
least_half_plain w (half_refused j) n p h = record {
  if_found = λ e. absurd (n.not_zero (ap half_refused (sym p.number_is ∙ e)));
  if_spent = λ e. absurd (n.not_eleven (ap half_refused (sym p.number_is ∙ e)));
}
