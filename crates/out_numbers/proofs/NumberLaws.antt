-- Numbers of what is said.
use Rattle.std.specs.Prelude.{ℕ, ◌≡◌}
use Rattle.std.proofs.Common.{subst}
use Rattle.spec_definitions.specs.Answers.{Said}
use Rattle.out_numbers.specs.Numbers.{Plain}

-- equal sayings have the same numbers
pub plain_same : {s t : Said} {number first second third : ℕ} → s ≡ t → Plain s number first second third → Plain t number first second third
plain_same {number = a} {first = b} {second = c} {third = d} e p = subst (λ (s : Said). Plain s a b c d) e p
