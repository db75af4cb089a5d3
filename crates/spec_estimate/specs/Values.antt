-- The value of a polynomial at an element e of the field is its remainder by x − e: x − e divides the polynomial less
-- that value, and this holds of no other element. So the polynomial is 0 or a square modulo x − e exactly where its
-- value at e is 0 or a square.
use Prim.Native.Nat.{ℕ}
use mathlib.Core.List.{List, [], ◌∷◌}
use Rattle.spec_arithmetic.specs.Field.{FieldName, ops}
use Rattle.spec_arithmetic.specs.Polynomials.{sub, mul}
use Rattle.spec_fields.specs.Named.{Ok}
use Rattle.spec_sentences.specs.Arithmetic.{Divides}

-- x − e
abbrev pub linear : FieldName → ℕ → List ℕ
linear f e = sub (ops f) (0 ∷ 1 ∷ []) (e ∷ [])

-- v is the value of the polynomial l at e
pub record Value (f : FieldName) (l : List ℕ) (e v : ℕ) : Type 0 where
  pub below : Ok f v
  pub divides : Divides f (linear f e) (sub (ops f) l (v ∷ []))

-- l is a square modulo x − e
abbrev pub SquareModulo : FieldName → List ℕ → ℕ → Type 0
SquareModulo f l e = (z : List ℕ) × Divides f (linear f e) (sub (ops f) l (mul (ops f) z z))
