-- What a contract says of √D: its field, D, the genus, the root of D, the ticket with a budget.
use Rattle.std.specs.Prelude.{ℕ, List}
use Rattle.spec_arithmetic.specs.Field.{FieldName, Ops}
use Rattle.spec_definitions.specs.Ticket.{Ticket, ticket, genus}
use Rattle.base_field.specs.Named as fields
use Rattle.base_polynomial.specs.Whole as polynomials
use Rattle.base_surd.specs.declared.Surd.{Surd}

-- the field's name
abbrev pub name : Surd → FieldName
name s = fields.name s.field

abbrev pub ops : Surd → Ops ℕ
ops s = fields.ops s.field

abbrev pub g : Surd → ℕ
g s = genus s.n

abbrev pub D : Surd → List ℕ
D s = polynomials.poly s.radicand

-- the definitions' ticket with a budget
abbrev pub ticket_with : Surd → ℕ → Ticket
ticket_with s b = ticket (name s) s.n (D s) b
