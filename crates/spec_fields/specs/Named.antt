-- The field that a name stands for: its operations on the values of words have a model in a perfect field.
-- What follows from that is said and proved once, over `arithmetic f h`.
use Rattle.std.specs.Prelude.{ℕ, ◌<◌, ◌≡◌, refl, true}
use Rattle.std.proofs.Common.{mod-lt, mod-eq_of_lt, arith, sym, ap, ◌∙◌, subst, ltb-true, lt-ltb}
use Rattle.std.proofs.Math.Nat.{zero-mod}
use Rattle.math_ring.specs.Residues.{Fq}
use Rattle.math_algebra.specs.Field.{Field}
use Rattle.math_algebra.specs.Characteristic.{Perfect}
use Rattle.math_algebra.specs.Fermat.{perfect_residues}
use Rattle.spec_arithmetic.specs.Field.{FieldName, ops, fits, reading}
use Rattle.spec_arithmetic.specs.Words.{values}
use Rattle.spec_bridge.specs.Model.{Model, Inverts}
use Rattle.spec_bridge.specs.Coefficients.{Onto}
use Rattle.spec_bridge.specs.Prime.{Prime}
use Rattle.spec_bridge.specs.Residues.{pos, field, model, inverts, onto, to_mod}

-- f names a field: q is an odd prime below 4,096
pub record IsField (f : FieldName) : Type 0 where
  pub prime : Prime f.q
  pub odd : 2 < f.q
  pub small : f.q < 4096

-- an admissible coefficient
abbrev pub Ok : FieldName → ℕ → Type 0
Ok f x = x < f.q

-- what the laws ask of the operations: a model in a perfect field
pub record Arithmetic (f : FieldName) : Type 1 where
  pub Elements : Type 0
  pub K : Field Elements
  pub M : Model (ops f) K.scalars
  pub I : Inverts M
  pub onto : Onto M
  pub perfect : Perfect K
  -- its coefficients are the admissible ones
  pub ok_of : (x : ℕ) → Ok f x → M.Ok x
  pub ok_is : (x : ℕ) → M.Ok x → Ok f x
  -- a number and the coefficient that it stands for are the same element
  pub φ_reading : (x : ℕ) → M.φ (reading f x) ≡ M.φ x
  pub ok_reading : (x : ℕ) → M.Ok (reading f x)
  -- the number 1 is the field's 1
  pub one_is : (ops f).one ≡ 1

-- the test is the rule
pub fits_ok : (f : FieldName) (x : ℕ) → fits f x ≡ true → Ok f x
unfolding fits
fits_ok f x e = ltb-true x f.q e

pub ok_fits : (f : FieldName) (x : ℕ) → Ok f x → fits f x ≡ true
unfolding fits
ok_fits f x h = lt-ltb x f.q h

pub reading_same_element : (f : FieldName) (p : 0 < f.q) (x : ℕ) → (model f.q p).φ (reading f x) ≡ (model f.q p).φ x
unfolding reading
reading_same_element f p x = to_mod f.q p x

pub reading_below : (f : FieldName) → 0 < f.q → (x : ℕ) → reading f x < f.q
unfolding reading
reading_below f p x = mod-lt x p

-- of q elements, for any odd prime q
abbrev pub residues : (f : FieldName) → Prime f.q → 2 < f.q → Arithmetic f
residues f p odd = record {
  Elements = Fq f.q;
  K = field f.q p odd;
  M = model f.q (pos f.q p);
  I = inverts f.q (pos f.q p) p;
  onto = onto f.q p;
  perfect = perfect_residues f.q (pos f.q p) p (field f.q p odd) refl;
  ok_of = λ x k. k;
  ok_is = λ x k. k;
  φ_reading = reading_same_element f (pos f.q p);
  ok_reading = reading_below f (pos f.q p);
  one_is = mod-eq_of_lt (let w : 1 < f.q = omega arith in w);
}

abbrev pub arithmetic : (f : FieldName) → IsField f → Arithmetic f
arithmetic f h = residues f h.prime h.odd

-- ---- of any arithmetic
module _ {f : FieldName} (A : Arithmetic f) where
  -- the number 1 is the field's 1
  pub φ_one_in : A.M.φ 1 ≡ A.K.scalars.one
  φ_one_in = ap A.M.φ (sym A.one_is) ∙ A.M.φ_one

  pub ok_one_in : A.M.Ok 1
  ok_one_in = subst A.M.Ok A.one_is A.M.ok_one

  -- two numbers stand for the same coefficient where they are the same element
  pub same_reading_in : (x y : ℕ) → A.M.φ x ≡ A.M.φ y → reading f x ≡ reading f y
  same_reading_in x y e = A.M.inj _ _ (A.ok_reading x) (A.ok_reading y) (A.φ_reading x ∙ e ∙ sym (A.φ_reading y))

  pub reading_same_in : (x y : ℕ) → reading f x ≡ reading f y → A.M.φ x ≡ A.M.φ y
  reading_same_in x y e = sym (A.φ_reading x) ∙ ap A.M.φ e ∙ A.φ_reading y

-- ---- of the field that is named
module _ (f : FieldName) (h : IsField f) where
  -- 0 is admissible
  pub ok_zero : Ok f 0
  ok_zero = (arithmetic f h).ok_is 0 (arithmetic f h).M.ok_zer

  pub some_elements : 0 < f.q
  some_elements = pos f.q h.prime

  pub φ_first : (arithmetic f h).M.φ 1 ≡ (arithmetic f h).K.scalars.one
  φ_first = φ_one_in (arithmetic f h)

  -- 1 is admissible
  pub ok_first : (arithmetic f h).M.Ok 1
  ok_first = ok_one_in (arithmetic f h)

  pub one_first : (ops f).one ≡ 1
  one_first = (arithmetic f h).one_is

  pub same_reading : (x y : ℕ) → (arithmetic f h).M.φ x ≡ (arithmetic f h).M.φ y → reading f x ≡ reading f y
  same_reading = same_reading_in (arithmetic f h)

  pub reading_same : (x y : ℕ) → reading f x ≡ reading f y → (arithmetic f h).M.φ x ≡ (arithmetic f h).M.φ y
  reading_same = reading_same_in (arithmetic f h)

  -- an admissible number stands for itself
  pub reading_ok : (x : ℕ) → Ok f x → reading f x ≡ x
  reading_ok x k = (arithmetic f h).M.inj _ _ ((arithmetic f h).ok_reading x) ((arithmetic f h).ok_of x k) ((arithmetic f h).φ_reading x)

  pub reading_first : reading f 1 ≡ 1
  reading_first = reading_ok 1 ((arithmetic f h).ok_is 1 ok_first)

  -- a number that stands for 1 is the field's 1
  pub reading_one : (x : ℕ) → reading f x ≡ 1 → (arithmetic f h).M.φ x ≡ (arithmetic f h).K.scalars.one
  reading_one x e = reading_same x 1 (e ∙ sym reading_first) ∙ φ_first

  -- an admissible coefficient fits into a word
  pub ok_small : (x : ℕ) → Ok f x → x < values
  ok_small x k = let z = h.small in omega arith

-- 0 stands for itself
pub reading_zero : (f : FieldName) → reading f 0 ≡ 0
unfolding reading
reading_zero f = zero-mod f.q
