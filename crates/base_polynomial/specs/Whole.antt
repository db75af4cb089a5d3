-- What a contract says of a whole record: the polynomial that it stands for, over a field of the code.
use Rattle.std.specs.Prelude.{List, ℕ, ◌≤◌}
use Rattle.base_places.specs.Places.{Within}
use Rattle.base_field.specs.declared.Field.{Field}
use Rattle.base_field.specs.Named.{name}
use Rattle.base_polynomial.specs.declared.Poly.{Poly}
use Rattle.base_polynomial.specs.Over as over
pub use Rattle.base_polynomial.specs.Over.{poly, Holds}

-- a record as every function keeps it
abbrev pub Held : Field → Poly → Type 0
Held f a = over.Held (name f) a

-- it is the record that stands for the polynomial l
abbrev pub Is : Field → Poly → List ℕ → Type 0
Is f a l = over.Is (name f) a l

-- admissible coefficients, and zeros from the size on; the one before may be 0 too
abbrev pub Fits : Field → Poly → Type 0
Fits f a = Within (name f) a.c a.size × (a.size ≤ 129)
