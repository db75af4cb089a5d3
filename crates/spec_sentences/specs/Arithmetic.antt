-- "Div and mod are division with remainder": for every allowed field and all lists, a = quo·b + rem with a
-- remainder of lower degree than b; 1/a is the inverse of a; gcd has the paper's rule, divides both
-- polynomials, and every polynomial that divides both divides it.
-- What it is to divide is said with a factor, not with a remainder; both say the same. Polynomials are lists
-- of any numbers and any length, read in the field.
use Rattle.std.specs.Prelude.{ℕ, ◌<◌, ◌≡◌, ◌≢◌, List, []}
use Rattle.spec_arithmetic.specs.Field.{FieldName, ops, reading}
use Rattle.spec_arithmetic.specs.Polynomials.{size, lead, add, mul, quo, rem, monic, gcd}
use Rattle.spec_sentences.specs.Sentences.{AllowedField, Same}

-- l divides h: l·e = h for some e
abbrev pub Divides : FieldName → List ℕ → List ℕ → Type 0
Divides f l h = (e : List ℕ) × Same f h (mul (ops f) l e)

-- a = quo·b + rem, and deg rem < deg b
pub record Divided (f : FieldName) (a b : List ℕ) : Type 0 where
  pub is : Same f a (add (ops f) (mul (ops f) (quo (ops f) a b) b) (rem (ops f) a b))
  pub less : size (ops f) (rem (ops f) a b) < size (ops f) b

abbrev pub Division : Type 0
Division = (f : FieldName) → AllowedField f → (a b : List ℕ) → size (ops f) b ≢ 0 → Divided f a b

abbrev pub Inverse : Type 0
Inverse = (f : FieldName) → AllowedField f → (a : ℕ) → reading f a ≢ 0 → (ops f).mul ((ops f).inv a) a ≡ 1

-- "The greatest common divisor of A and B is that of B and the remainder of A by B; it is A made monic where
-- B is zero, and zero where both are. Greatest common divisors are monic."
pub record GcdRule (f : FieldName) (a b : List ℕ) : Type 0 where
  pub step : size (ops f) b ≢ 0 → gcd (ops f) a b ≡ gcd (ops f) b (rem (ops f) a b)
  pub base : size (ops f) b ≡ 0 → gcd (ops f) a b ≡ monic (ops f) a
  pub none : size (ops f) a ≡ 0 → size (ops f) b ≡ 0 → gcd (ops f) a b ≡ []
  pub leads : gcd (ops f) a b ≢ [] → lead (ops f) (gcd (ops f) a b) ≡ 1
  pub divides_first : Divides f (gcd (ops f) a b) a
  pub divides_second : Divides f (gcd (ops f) a b) b
  pub greatest : (l : List ℕ) → Divides f l a → Divides f l b → Divides f l (gcd (ops f) a b)

abbrev pub Euclid : Type 0
Euclid = (f : FieldName) → AllowedField f → (a b : List ℕ) → GcdRule f a b
