-- Sixteen outcomes as 64 plain numbers, four for each place, and T3 of them.
use Rattle.std.specs.Prelude.{ℕ, ◌+◌, ◌*◌, ◌<◌, ◌≡◌, List, [], ◌∷◌, length, get_or, set}
use Rattle.spec_definitions.specs.Answers.{Outcome, Said, refused, said}
use Rattle.spec_several.specs.Several.{most_primes, primes_of, job_words}
use Rattle.out_numbers.specs.Numbers.{Plain}
use Rattle.out_numbers.specs.Least.{LeastPlain}

-- the four numbers of place i are what s says
abbrev pub PlainAt : List ℕ → ℕ → Said → Type 0
PlainAt out i s =
    Plain s (get_or out (4 * i) 0) (get_or out (4 * i + 1) 0) (get_or out (4 * i + 2) 0) (get_or out (4 * i + 3) 0)

-- the numbers of every place are those of its outcome
abbrev pub InPlaces : List Outcome → List ℕ → Type 0
InPlaces l out = (i : ℕ) → i < most_primes → PlainAt out i (said (get_or l i (refused 0)))

-- what is said in every place as plain numbers, four for each: the paper's number and three values, 0 for each value
-- that there is not
unfoldable pub plain_places : List Said → List ℕ
plain_places [] = []
plain_places (s ∷ l) = s.number ∷ get_or s.values 0 0 ∷ get_or s.values 1 0 ∷ get_or s.values 2 0 ∷ plain_places l

-- T3 of the four numbers of place i, for the ticket of the words w
abbrev pub LeastAt : List ℕ → ℕ → List ℕ → Type 0
LeastAt out i w =
    LeastPlain w (get_or out (4 * i) 0) (get_or out (4 * i + 1) 0) (get_or out (4 * i + 2) 0) (get_or out (4 * i + 3) 0)

-- T3 of every place that has an outcome, for the single job at its prime
abbrev pub LeastPlaces : List ℕ → ℕ → List ℕ → Type 0
LeastPlaces w count out = (i : ℕ) → i < count → LeastAt out i (job_words w (get_or (primes_of w) i 0))

-- ---- the numbers of an outcome put into place i: those of the places before it stay
pub record Put (before : List ℕ) (i : ℕ) (x : Outcome) (after : List ℕ) : Type 0 where
  pub long : length after ≡ 4 * most_primes
  pub here : PlainAt after i (said x)
  pub earlier : (k : ℕ) → k < i → (s : Said) → PlainAt before k s → PlainAt after k s

-- four stores, from place j of a list on
module _ (out : List ℕ) (j a b c d : ℕ) where
  abbrev one : List ℕ
  one = set out j a

  abbrev two : List ℕ
  two = set one (j + 1) b

  abbrev three : List ℕ
  three = set two (j + 2) c

  abbrev pub four : List ℕ
  four = set three (j + 3) d
