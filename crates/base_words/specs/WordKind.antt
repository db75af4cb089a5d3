-- The number of a kind.
use Rattle.std.specs.Prelude.{ℕ}
use Rattle.base_words.specs.declared.WordKind.{WordKind}
use Rattle.base_words.specs.declared.WordKind.TheVariants.{Prime, Degree, Coefficient, Budget, Index, DistanceHigh, DistanceLow, QCoefficient, PCoefficient, MirrorHigh, MirrorLow, Integer, End}

abbrev pub number_of : WordKind → ℕ
number_of Prime = 1
number_of Degree = 2
number_of Coefficient = 3
number_of Budget = 4
number_of Index = 5
number_of DistanceHigh = 6
number_of DistanceLow = 7
number_of QCoefficient = 8
number_of PCoefficient = 9
number_of MirrorHigh = 10
number_of MirrorLow = 11
number_of Integer = 12
number_of End = 15
