-- What is said, as plain numbers: the paper's number and its values, with 0 for each value that an outcome
-- does not have.
use Rattle.std.specs.Prelude.{ℕ, ◌≡◌, get_or}
use Rattle.spec_definitions.specs.Answers.{Said}

-- four numbers are what s says: found 0, R, m, c; spent 11, k, e, 0; refused j, 0, 0, 0
pub record Plain (s : Said) (number first second third : ℕ) : Type 0 where
  pub number_is : number ≡ s.number
  pub first_is : first ≡ get_or s.values 0 0
  pub second_is : second ≡ get_or s.values 1 0
  pub third_is : third ≡ get_or s.values 2 0
