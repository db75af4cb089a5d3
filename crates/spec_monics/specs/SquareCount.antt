-- The theorem a reader opens: of the q^n monic polynomials of degree n ≥ 2 over the field of q elements, q an
-- odd prime, the square of some polynomial of degree 1 or more divides q^(n−1).
-- The coefficient lists stand for the polynomials one to one, and those with a square factor correspond to
-- the monic polynomials of degree n − 1.
use Rattle.std.specs.Prelude.{ℕ, ◌-◌, ◌^◌, ◌≤◌, ◌<◌, ◌≡◌}
use Rattle.spec_arithmetic.specs.Field.{prime}
use Rattle.spec_definitions.specs.Ticket.{not_squarefree}
use Rattle.spec_bridge.specs.Prime.{Prime}
use Rattle.spec_sentences.specs.Sentences.{SquareDivides}
use Rattle.math_counting.specs.Count.{count}
use Rattle.math_counting.specs.HowMany.{HowMany}
use Rattle.spec_monics.specs.Monics.{MonicList, monics}

-- "the square of some polynomial of degree 1 or more divides D": so it is for q^(n−1) of the monic D of
-- degree n; q may be above 4,096
abbrev pub SquareMany : Type 0
SquareMany = (q n : ℕ) → Prime q → 2 < q → 2 ≤ n → HowMany (λ D. MonicList q n D × SquareDivides (prime q) D) (q ^ (n - 1))

-- the definitions' test says so of as many of them
abbrev pub SquareCount : Type 0
SquareCount = (q n : ℕ) → Prime q → 2 < q → 2 ≤ n → count (not_squarefree (prime q)) (monics q n) ≡ q ^ (n - 1)
