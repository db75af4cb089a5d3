-- What the operations on polynomials are, coefficient by coefficient and for lists of any numbers and any
-- length: sum, difference, multiple, product and derivative modulo q; size, degree and leading coefficient; a
-- polynomial made monic. Every result has coefficients below q and no zero at its end, so that it is the only
-- list of its polynomial. The other demands use these operations: what they say of polynomials rests on the
-- statements here and in Arithmetic.
use Prim.Native.Nat.{ℕ, zero, suc, ◌+◌, ◌-◌, ◌*◌, ◌%◌, ◌≤◌, ◌<◌}
use Rattle.std.proofs.Math.Path.{◌≡◌}
use Rattle.std.specs.Prelude.{◌≢◌, List}
use Rattle.std.proofs.Math.ListN.{length, get_or}
use Rattle.spec_arithmetic.specs.Field.{FieldName, ops, reading}
use Rattle.spec_arithmetic.specs.Polynomials.{size, deg, add, sub, scale, mul, lead, quo, rem, monic, gcd, derivative, root}
use Rattle.spec_fields.specs.Named.{Ok}
use Rattle.spec_sentences.specs.Sentences.{AllowedField, Same}

-- f(0) + .. + f(i)
unfoldable pub total : (ℕ → ℕ) → ℕ → ℕ
total f zero = f 0
total f (suc i) = total f i + f (suc i)

-- n is the degree of l and 1, and 0 for the zero polynomial: every coefficient from n on is 0, and the one
-- before is not
pub record SizeOf (f : FieldName) (l : List ℕ) (n : ℕ) : Type 0 where
  pub past : (i : ℕ) → n ≤ i → reading f (get_or l i 0) ≡ 0
  pub top : (k : ℕ) → n ≡ suc k → reading f (get_or l k 0) ≢ 0

-- "Coefficients are 0 to q−1", and there is no zero at the end
pub record Trimmed (f : FieldName) (l : List ℕ) : Type 0 where
  pub length_is : length l ≡ size (ops f) l
  pub below : (i : ℕ) → Ok f (get_or l i 0)

-- h is l "made monic": a multiple by a constant other than 0, with the leading coefficient 1
pub record MadeMonic (f : FieldName) (l h : List ℕ) : Type 0 where
  pub k : ℕ
  pub positive : 0 < k
  pub below : Ok f k
  pub is : Same f h (scale (ops f) k l)
  pub leads : lead (ops f) h ≡ 1
  pub same_size : size (ops f) h ≡ size (ops f) l

-- each operation by its coefficients; the field is to be an allowed one where an inverse is taken
pub record Operations (f : FieldName) : Type 0 where
  pub sum : (l h : List ℕ) (i : ℕ) → get_or (add (ops f) l h) i 0 ≡ (get_or l i 0 + get_or h i 0) % f.q
  pub difference : (l h : List ℕ) (i : ℕ) → (get_or (sub (ops f) l h) i 0 + get_or h i 0) % f.q ≡ reading f (get_or l i 0)
  pub multiple : (c : ℕ) (l : List ℕ) (i : ℕ) → get_or (scale (ops f) c l) i 0 ≡ (c * get_or l i 0) % f.q
  pub product : (l h : List ℕ) (i : ℕ) → get_or (mul (ops f) l h) i 0 ≡ total (λ j. get_or l j 0 * get_or h (i - j) 0) i % f.q
  pub derived : (l : List ℕ) (i : ℕ) → get_or (derivative (ops f) l) i 0 ≡ (suc i * get_or l (suc i) 0) % f.q
  pub sized : (l : List ℕ) → SizeOf f l (size (ops f) l)
  pub size_only : (l : List ℕ) (n : ℕ) → SizeOf f l n → n ≡ size (ops f) l
  pub degree : (l : List ℕ) (k : ℕ) → size (ops f) l ≡ suc k → deg (ops f) l ≡ k
  pub leading : (l : List ℕ) → lead (ops f) l ≡ get_or l (size (ops f) l - 1) 0
  pub made_monic : AllowedField f → (l : List ℕ) → size (ops f) l ≢ 0 → MadeMonic f l (monic (ops f) l)
  pub sum_trimmed : (l h : List ℕ) → Trimmed f (add (ops f) l h)
  pub difference_trimmed : (l h : List ℕ) → Trimmed f (sub (ops f) l h)
  pub multiple_trimmed : (c : ℕ) (l : List ℕ) → Trimmed f (scale (ops f) c l)
  pub product_trimmed : (l h : List ℕ) → Trimmed f (mul (ops f) l h)
  pub derived_trimmed : (l : List ℕ) → Trimmed f (derivative (ops f) l)
  pub quo_trimmed : (a b : List ℕ) → Trimmed f (quo (ops f) a b)
  pub rem_trimmed : (a b : List ℕ) → Trimmed f (rem (ops f) a b)
  pub monic_trimmed : (l : List ℕ) → Trimmed f (monic (ops f) l)
  pub gcd_trimmed : AllowedField f → (a b : List ℕ) → Trimmed f (gcd (ops f) a b)
  pub root_trimmed : AllowedField f → (D : List ℕ) (N : ℕ) → Trimmed f (root (ops f) D N)

abbrev pub ByCoefficients : Type 0
ByCoefficients = (f : FieldName) → 0 < f.q → Operations f

-- a polynomial has one list with coefficients below q and no zero at its end
abbrev pub TrimmedSame : Type 0
TrimmedSame = (f : FieldName) → 0 < f.q → (l h : List ℕ) → Trimmed f l → Trimmed f h → Same f l h → l ≡ h
