-- A whole record over a field's name, for lemmas: that it is held, the polynomial that it stands for, and
-- what a caller keeps of each operation's result.
use Rattle.std.specs.Prelude.{◌≡◌, refl, List, [], ◌∷◌, ℕ, zero, suc, ◌+◌, ◌<◌, ◌≤◌, length, get_or}
use Rattle.std.proofs.Common.{ap, ◌∙◌}
use Rattle.spec_arithmetic.specs.Field.{FieldName, ops}
use Rattle.spec_arithmetic.specs.Polynomials.{trim, pad, add, sub, mul, gcd, monic, bezout}
use Rattle.spec_bridge.specs.Prime.{Prime}
use Rattle.spec_fields.specs.Named.{Ok}
use Rattle.base_polynomial.specs.declared.Poly.{Poly}
use Rattle.base_polynomial.specs.Record as places
use Rattle.base_polynomial.specs.Held as held
use Rattle.base_polynomial.specs.Result as results
use Rattle.base_polynomial.specs.Bezout as factors

-- its polynomial
abbrev pub poly : Poly → List ℕ
poly a = places.poly a.c a.size

-- a record as every function keeps it
abbrev pub Held : FieldName → Poly → Type 0
Held f a = places.Held f a.c a.size

-- it is the record that stands for the polynomial l
abbrev pub Is : FieldName → Poly → List ℕ → Type 0
Is f a l = places.Is f a.c a.size l

-- the same over every field, since the places past the polynomial hold 0
abbrev pub Holds : Poly → List ℕ → Type 0
Holds a l = (f : FieldName) → Is f a l

pad_any : (f g : FieldName) (k : ℕ) (l : List ℕ) → pad (ops f) k l ≡ pad (ops g) k l
unfolding pad
pad_any f g zero l = refl
pad_any f g (suc k) [] = ap (λ (t : List ℕ). 0 ∷ t) (pad_any f g k [])
pad_any f g (suc k) (x ∷ l) = ap (λ (t : List ℕ). x ∷ t) (pad_any f g k l)

pub holds : {f : FieldName} {a : Poly} {l : List ℕ} → Is f a l → Holds a l
holds {f} {a} {l} h g = record { places = h.places ∙ pad_any f g 129 l; size_is = h.size_is }

-- it is held, and its polynomial is l
abbrev pub Result : FieldName → Poly → List ℕ → Type 0
Result f a l = results.Result f.q a.c a.size l

module _ {f : FieldName} {a : Poly} where
  pub held_positive : Held f a → 0 < f.q
  held_positive h = held.held_positive f.q a.c a.size h

  pub length_poly : Held f a → length (poly a) ≡ a.size
  length_poly h = held.length_poly f.q a.c a.size h

  pub at_poly : Held f a → (i : ℕ) → get_or (poly a) i 0 ≡ get_or a.c i 0
  at_poly h = held.at_poly f.q a.c a.size h

  -- the size is that of the polynomial
  pub held_size : Held f a → length (trim (ops f) (poly a)) ≡ a.size
  held_size h = results.held_size f.q a.c a.size h

  module _ {l : List ℕ} where
    pub is_poly : Is f a l → length l ≤ 129 → poly a ≡ l
    is_poly h s = held.is_poly f.q a.c a.size l h s

    pub result : Is f a l → length l ≤ 129 → trim (ops f) l ≡ l → ((i : ℕ) → Ok f (get_or l i 0)) → Result f a l
    result h s t r = results.result f.q a.c a.size l h s t r

module _ {f : FieldName} {a b c : Poly} (held_a : Held f a) (held_b : Held f b) where
  pub result_add : Is f c (add (ops f) (poly a) (poly b)) → Result f c (add (ops f) (poly a) (poly b))
  result_add r = results.result_add f.q _ _ held_a _ _ _ _ held_b r

  pub result_sub : Is f c (sub (ops f) (poly a) (poly b)) → Result f c (sub (ops f) (poly a) (poly b))
  result_sub r = results.result_sub f.q _ _ held_a _ _ _ _ held_b r

  pub result_mul : a.size + b.size ≤ 130 → Is f c (mul (ops f) (poly a) (poly b)) → Result f c (mul (ops f) (poly a) (poly b))
  result_mul h r = results.result_mul f.q _ _ held_a _ _ held_b _ _ h r

  module _ (p : Prime f.q) where
    -- Bezout's factors
    pub result_factor_gcd : Is f c (bezout (ops f) (poly a) (poly b)).gcd → Result f c (gcd (ops f) (poly a) (poly b))
    result_factor_gcd r = factors.result_factor_gcd f.q p _ _ held_a _ _ held_b _ _ r

    pub result_u : Is f c (bezout (ops f) (poly a) (poly b)).u → Result f c (bezout (ops f) (poly a) (poly b)).u
    result_u r = factors.result_u f.q p _ _ held_a _ _ held_b _ _ r

pub result_monic : {f : FieldName} {a c : Poly} → Held f a → Is f c (monic (ops f) (poly a)) → Result f c (monic (ops f) (poly a))
result_monic {f} h r = results.result_monic f.q _ _ h _ _ r
