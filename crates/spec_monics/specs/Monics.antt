-- All monic polynomials of degree n over q, as lists of coefficients below q, constant term first: q^n of
-- them, none twice, none left out.
use Rattle.std.specs.Prelude.{ℕ, zero, suc, ◌^◌, ◌<◌, ◌≡◌, length, get_or}
use mathlib.Core.List.{List, [], ◌∷◌, ◌++◌, map}
use Rattle.math_counting.specs.HowMany.{HowMany}

-- n coefficients below q, then 1 at x^n
pub record MonicList (q n : ℕ) (l : List ℕ) : Type 0 where
  pub size : length l ≡ suc n
  pub below : (i : ℕ) → i < n → get_or l i 0 < q
  pub top : get_or l n 0 ≡ 1

-- each number below c in front of each of the lists
unfoldable pub fronts : ℕ → List (List ℕ) → List (List ℕ)
fronts zero ls = []
fronts (suc c) ls = fronts c ls ++ map (λ l. c ∷ l) ls

-- all monic lists of degree n
unfoldable pub monics : ℕ → ℕ → List (List ℕ)
monics q zero = (1 ∷ []) ∷ []
monics q (suc n) = fronts q (monics q n)

-- there are q^n
abbrev pub MonicMany : Type 0
MonicMany = (q n : ℕ) → HowMany (MonicList q n) (q ^ n)
