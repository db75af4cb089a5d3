-- `same` is equality of lists; a number is in a list of one number where it is that number.
use Rattle.std.specs.Prelude.{ℕ, ◌≡◌, refl, Bool, true, false, List, [], ◌∷◌, eqb}
use Rattle.std.proofs.Common.{ap₂, eqb-true, eq-eqb}
use Rattle.std.proofs.lemmas.Bool.{false≢true}
use Rattle.spec_arithmetic.specs.Words.{same, one_of}

pub same_refl : (l : List ℕ) → same l l ≡ true
unfolding same
same_refl [] = refl
same_refl (x ∷ l) = rw (same, eq-eqb x x refl) (same_refl l)

pub same_equal : (l m : List ℕ) → same l m ≡ true → l ≡ m
unfolding same
same_equal [] [] e = refl
same_equal [] (y ∷ m) e = absurd (false≢true e)
same_equal (x ∷ l) [] e = absurd (false≢true e)
same_equal (x ∷ l) (y ∷ m) e = go (eqb x y) refl e (same_equal l m)
  where
    go : (t : Bool) → eqb x y ≡ t → (elim t [ true ↦ same l m | false ↦ false ]) ≡ true → (same l m ≡ true → l ≡ m) → ◌≡◌ {A = List ℕ} (x ∷ l) (y ∷ m)
    go true h k rest = ap₂ (λ a b. a ∷ b) (eqb-true x y h) (rest k)
    go false h k rest = absurd (false≢true k)

pub same_not : (l m : List ℕ) → (l ≡ m → ⊥) → same l m ≡ false
same_not l m h = go (same l m) refl
  where
    go : (t : Bool) → same l m ≡ t → same l m ≡ false
    go true e = absurd (h (same_equal l m e))
    go false e = e

pub one_of_one : (x y : ℕ) → one_of (y ∷ []) x ≡ eqb x y
unfolding one_of
one_of_one x y = go (eqb x y)
  where
    go : (t : Bool) → (elim t [ true ↦ true | false ↦ false ]) ≡ t
    go true = refl
    go false = refl
