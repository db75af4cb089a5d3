-- What a contract says of a field of the code: its name, its operations, its coefficients.
use Rattle.std.specs.Prelude.{ℕ}
use Rattle.spec_arithmetic.specs.Field.{Ops, FieldName, prime, ops as ops_of}
use Rattle.spec_fields.specs.Named as fields
use Rattle.base_field.specs.declared.Field.{Field}
pub use Rattle.base_field.specs.Numbers.{largest, AreField}

abbrev pub name : Field → FieldName
name f = prime f.q

abbrev pub ops : Field → Ops ℕ
ops f = ops_of (name f)

-- q is an odd prime below 4,096, and the reciprocal belongs to it: so of each field
abbrev pub IsField : Field → Type 0
IsField f = AreField f.q f.reciprocal

-- an admissible coefficient
abbrev pub Ok : Field → ℕ → Type 0
Ok f x = fields.Ok (name f) x

pub named : (f : Field) → IsField f → fields.IsField (name f)
named f h = record { prime = h.0; odd = h.1; small = h.2 }
