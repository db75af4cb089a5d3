-- What the contracts say of a record of 129 coefficients with its size: the polynomial that it stands for.
use Rattle.std.specs.Prelude.{◌≡◌, List, ℕ, ◌≤◌, length, get_or, take}
use Rattle.spec_arithmetic.specs.Field.{FieldName, ops}
use Rattle.spec_arithmetic.specs.Polynomials.{trim, pad}
use Rattle.spec_fields.specs.Named.{Ok}

-- the polynomial of a record: its first `size` coefficients
abbrev pub poly : List ℕ → ℕ → List ℕ
poly c size = take size c

-- a record as every function keeps it: admissible coefficients, zeros from the size on, none at the end
-- before it
pub record Held (f : FieldName) (c : List ℕ) (size : ℕ) : Type 0 where
  pub places : c ≡ pad (ops f) 129 (poly c size)
  pub short : size ≤ 129
  pub trimmed : trim (ops f) (poly c size) ≡ poly c size
  pub reduced : (i : ℕ) → Ok f (get_or c i 0)

-- the record is the one that stands for the polynomial l
pub record Is (f : FieldName) (c : List ℕ) (size : ℕ) (l : List ℕ) : Type 0 where
  pub places : c ≡ pad (ops f) 129 l
  pub size_is : size ≡ length l
