-- Quotient and remainder, inverse, greatest common divisor and monic multiple are the only ones with the
-- properties that `demands` states of them: whatever has these is the definition's value. For every allowed
-- field and all polynomials, which are lists of any numbers and any length, read in the field.
use Rattle.std.specs.Prelude.{ℕ, ◌<◌, ◌≡◌, List}
use Rattle.spec_arithmetic.specs.Field.{FieldName, ops, reading}
use Rattle.spec_arithmetic.specs.Polynomials.{size, lead, add, scale, mul, quo, rem, monic, gcd}
use Rattle.spec_fields.specs.Named.{Ok}
use Rattle.spec_sentences.specs.Sentences.{AllowedField, Same}
use Rattle.spec_sentences.specs.Arithmetic.{Divides}

-- a = c·b + r and deg r < deg b: then c is the quotient and r the remainder
abbrev pub OneDivision : Type 0
OneDivision = (f : FieldName) → AllowedField f → (a b c r : List ℕ) → Same f a (add (ops f) (mul (ops f) c b) r) → size (ops f) r < size (ops f) b
    → (Same f c (quo (ops f) a b)) × (Same f r (rem (ops f) a b))

-- x·a is 1, and x is admissible
abbrev pub OneInverse : Type 0
OneInverse = (f : FieldName) → AllowedField f → (a x : ℕ) → Ok f x → (ops f).mul x a ≡ 1 → x ≡ (ops f).inv a

-- l divides a and b, every polynomial that divides both divides l, and l is monic
abbrev pub OneGcd : Type 0
OneGcd = (f : FieldName) → AllowedField f → (a b l : List ℕ) → Divides f l a → Divides f l b → ((h : List ℕ) → Divides f h a → Divides f h b → Divides f h l) → reading f (lead (ops f) l) ≡ 1
    → Same f l (gcd (ops f) a b)

-- h is l times a constant, and h is monic
abbrev pub OneMonic : Type 0
OneMonic = (f : FieldName) → AllowedField f → (l h : List ℕ) (k : ℕ) → Same f h (scale (ops f) k l) → reading f (lead (ops f) h) ≡ 1 → Same f h (monic (ops f) l)
