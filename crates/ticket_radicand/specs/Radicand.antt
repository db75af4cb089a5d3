-- The coefficients of D in the words, and the record that they are read into.
use Prim.Native.Nat.{ℕ, zero, suc, ◌+◌, ◌%◌, ◌<◌, ◌≤◌}
use Rattle.std.proofs.Common.{mod-eq_of_lt, arith, sym, ◌∙◌, subst, length-drop, length-take-le, get_or-take, ne_eqb, MatchBool}
use Rattle.std.specs.Prelude.{◌≡◌, Bool, true, false, length, take, drop}
use Rattle.std.specs.List.{HoldsAt, AllWithin}
use Rattle.std.proofs.Math.Path.{ap}
use mathlib.Core.List.{List, [], ◌∷◌, map}
use Rattle.std.proofs.Math.ListN.{get_or, get_or-map, get_or-eq_default}
use Rattle.std.proofs.lemmas.List.{length-map}
use Rattle.std.proofs.Math.Seq.{get_or-drop}
use Rattle.std.proofs.lemmas.Grind.{common_steps}
use Rattle.spec_arithmetic.specs.Field.{Ops, FieldName, ops, fits}
use Rattle.spec_arithmetic.specs.Polynomials.{at, keep, cons, trim}
use Rattle.spec_arithmetic.specs.Words.{value, some_not}
use Rattle.spec_definitions.specs.Ticket.{wrong_coefficient, wrong_lead}
use Rattle.spec_fields.specs.Named.{IsField, Ok, ok_zero}
use Rattle.spec_laws.specs.FirstTest.{first_applies, first_passes, first_nil}
use Rattle.spec_laws.specs.Admitted.{below_of, lead_of}
use Rattle.spec_laws.specs.Coefficients.{some_none, take_at}
use Rattle.base_places.specs.Places.{FilledBy, places_of}
use Rattle.base_polynomial.specs.declared.Poly.{Poly}
use Rattle.base_polynomial.specs.Held.{is_of}
use Rattle.base_polynomial.specs.Over.{poly, Held, Holds, Is, result, is_poly}

-- what the first of the tests that applies is
pub ruleset first_test = (common_steps, first_applies, first_passes, first_nil)

-- the values of the n + 1 words after the first two
abbrev pub coefficients : ℕ → List ℕ → List ℕ
coefficients n w = map value (take (n + 1) (drop 2 w))

module _ (n : ℕ) (w : List ℕ) where
  pub length_coefficients : n + 3 ≤ length w → length (coefficients n w) ≡ n + 1
  length_coefficients h = length-map (take (n + 1) (drop 2 w)) value ∙ length-take-le (n + 1) (drop 2 w) (omega (arith, length-drop 2 w))

  pub at_coefficients : (i : ℕ) → i < n + 1 → get_or (coefficients n w) i 0 ≡ value (get_or w (i + 2) 0)
  unfolding value
  at_coefficients i h = get_or-map value (take (n + 1) (drop 2 w)) i 0 ∙ ap value (get_or-take (n + 1) (drop 2 w) i 0 h ∙ get_or-drop 2 w i 0 ∙ ap (λ (k : ℕ). get_or w k 0) (omega arith))

-- a record whose places are filled with what P says is that of l, where P says what l has
pub filled_holds : {P : ℕ → ℕ → Type 0} {n : ℕ} {a : Poly} {l : List ℕ} → FilledBy P n a.c → n ≤ 129 → a.size ≡ length l → length l ≡ n → ((i v : ℕ) → i < n → P i v → v ≡ get_or l i 0) → Holds a l
filled_holds {a = a} {l = l} p s e k says f =
    let places = places_of p says (λ i h. get_or-eq_default l 0 {n = i} (omega arith)) in
    is_of f.q a.c a.size l places.long e (omega arith) places.at

-- a test of the first n places of an array, each against q, is that of their list
module _ (f : FieldName) (z : Ok f 0) (c : List ℕ) (n : ℕ) (long : n ≤ length c) where
  pub any_coefficient : (r : Bool) → MatchBool r ((i : ℕ) × (i < length (take n c)) × HoldsAt (λ x. f.q ≤ x) (take n c) i) (AllWithin (λ x. x < f.q) (take n c) 0 (length (take n c))) → r ≡ some_not (fits f) (take n c)
  any_coefficient true (i, h, bad) =
      let e = length-take-le n c long in
      let low : i < n = omega arith in
      sym (take_at f c n long z i low (λ ok. (let b : f.q ≤ get_or (take n c) i 0 = bad 0 in let k = get_or-take n c i 0 low in omega arith)))
  any_coefficient false all = sym (some_none f (take n c) (λ i h. all i 0 (omega arith) h))

-- a list whose last coefficient is not 0 has no zero at its end
module _ {A : Type 0} (o : Ops A) where
  trim_full : (l : List A) (n : ℕ) → length l ≡ suc n → o.zer? (at o l n) ≡ false → trim o l ≡ l
  unfolding trim
  trim_full [] n e z = absurd (omega arith)
  trim_full (a ∷ []) zero e z = ap (λ (b : Bool). keep o b a) z
  trim_full (a ∷ []) (suc n) e z = absurd (omega arith)
  trim_full (a ∷ (b ∷ l)) zero e z = absurd (omega arith)
  trim_full (a ∷ (b ∷ l)) (suc n) e z = ap (cons o a) (trim_full (b ∷ l) n (omega arith) z)

pub trim_lead_one : (f : FieldName) → IsField f → (l : List ℕ) (n : ℕ) → length l ≡ suc n → get_or l n 0 ≡ 1 → trim (ops f) l ≡ l
trim_lead_one f h l n e one = trim_full (ops f) l n e (ne_eqb (get_or l n 0 % f.q) 0 (λ z. let p = h.odd in let m : 1 % f.q ≡ 1 = mod-eq_of_lt (omega arith) in let k : get_or l n 0 % f.q ≡ 1 % f.q = ap (λ (x : ℕ). x % f.q) one in omega arith))

-- past tests 5 and 6 the record of D is held
pub held_of : (f : FieldName) → IsField f → (radicand : Poly) (n : ℕ) → radicand.size ≡ n + 1 → radicand.size ≤ 129 → Is f radicand (poly radicand) → wrong_coefficient f (poly radicand) ≡ false → wrong_lead n (poly radicand) ≡ false → Held f radicand
unfolding wrong_coefficient
held_of f h radicand n e s is low lead =
    (result is (let k : radicand.size ≡ length (poly radicand) = is.size_is in omega arith)
    (trim_lead_one f h (poly radicand) n (let k : radicand.size ≡ length (poly radicand) = is.size_is in omega arith) (lead_of n (poly radicand) lead))
    (below_of f (ok_zero f h) (poly radicand) low)
    ).held

-- the record that the coefficients are read into
module _ (n : ℕ) (w : List ℕ) (most : n ≤ 64) (long : n + 3 ≤ length w) {f : FieldName} {radicand : Poly} (is : Is f radicand (coefficients n w)) where
  pub radicand_size : radicand.size ≡ n + 1
  radicand_size = is.size_is ∙ length_coefficients n w long

  pub radicand_poly : poly radicand ≡ coefficients n w
  radicand_poly = is_poly is (omega (arith, length_coefficients n w long))

  pub radicand_itself : Is f radicand (poly radicand)
  radicand_itself = subst (Is f radicand) (sym radicand_poly) is
