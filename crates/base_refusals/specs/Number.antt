-- The number of a refusal, and that of a test that may refuse: 0 where it does not.
use Rattle.std.specs.Prelude.{ℕ, ◌<◌, Result, Ok, Err}
use Rattle.std.proofs.Common.{arith}
use Rattle.base_refusals.specs.declared.Refusal.{Refusal}
use Rattle.base_refusals.specs.declared.Refusal.TheVariants.{Head, Prime, Degree, Layout, Coefficient, Lead, Squarefree, Ideal, Distance, UnitRoom, ListingRoom, Shape, Size}

abbrev pub number_of : Refusal → ℕ
number_of Head = 1
number_of Prime = 2
number_of Degree = 3
number_of Layout = 4
number_of Coefficient = 5
number_of Lead = 6
number_of Squarefree = 7
number_of Ideal = 9
number_of Distance = 10
number_of UnitRoom = 12
number_of ListingRoom = 13
number_of Shape = 14
number_of Size = 15

abbrev pub refused_by : {A : Type 0} → Result A Refusal → ℕ
refused_by (Ok _) = 0
refused_by (Err r) = number_of r

-- no refusal has the number 0
pub number_some : (r : Refusal) → 0 < number_of r
number_some Head = omega arith
number_some Prime = omega arith
number_some Degree = omega arith
number_some Layout = omega arith
number_some Coefficient = omega arith
number_some Lead = omega arith
number_some Squarefree = omega arith
number_some Ideal = omega arith
number_some Distance = omega arith
number_some UnitRoom = omega arith
number_some ListingRoom = omega arith
number_some Shape = omega arith
number_some Size = omega arith
