-- A polynomial made monic keeps its size; a remainder by it is held.
use Rattle.std.specs.Prelude.{ℕ, ◌-◌, ◌<◌, ◌≡◌, List, length, get_or}
use Rattle.std.proofs.Common.{arith, ap, ◌∙◌}
use Rattle.math_ring.specs.Residues.{FqRing}
use Rattle.spec_arithmetic.specs.Field.{FieldName, ops}
use Rattle.spec_arithmetic.specs.Polynomials.{trim, deg, rem, monic}
use Rattle.spec_arithmetic.specs.Polynomials as polynomials
use Rattle.spec_arithmetic.specs.Words.{values}
use Rattle.spec_bridge.specs.Monic.{trim_monic, length_monic}
use Rattle.spec_bridge.specs.Division.{trim_rem, oks_rem, rem_less}
use Rattle.spec_bridge.specs.Model.{Model, Inverts}
use Rattle.spec_bridge.specs.Prime.{Prime}
use Rattle.spec_bridge.specs.Residues.{model, inverts}
use Rattle.base_polynomial.specs.declared.Poly.{Poly}
use Rattle.base_polynomial.specs.Over.{poly, Held, Is, result, held_positive, held_size}

module _ {f : FieldName} {a : Poly} (prime : Prime f.q) (held : Held f a) where
  abbrev M : Model (ops f) (FqRing f.q (held_positive {f = f} {a = a} held))
  M = model f.q (held_positive {f = f} {a = a} held)

  abbrev I : Inverts M
  I = inverts f.q (held_positive {f = f} {a = a} held) prime

  made_monic : length (trim (ops f) (monic (ops f) (poly a))) ≡ a.size
  made_monic = ap length (trim_monic M I (poly a)) ∙ length_monic M I (poly a) ∙ held_size {f = f} {a = a} held

  pub monic_degree : deg (ops f) (monic (ops f) (poly a)) ≡ a.size - 1
  unfolding deg polynomials.size
  monic_degree = ap (λ (n : ℕ). n - 1) made_monic

  -- the divisor is not 0
  pub remainder_held : 0 < a.size → (l : List ℕ) {r : Poly} → Is f r (rem (ops f) l (monic (ops f) (poly a))) → Held f r
  remainder_held some l {r} is =
      let e = made_monic in
      let s = held.short in
      let w = rem_less M I l (monic (ops f) (poly a)) (omega arith) in
      (result {a = r} is (omega arith) (trim_rem M l _) (oks_rem M l _)).held

-- a coefficient fits a word's value
pub value_fits : {f : FieldName} {a : Poly} → f.q < 4096 → Held f a → (i : ℕ) → get_or a.c i 0 < values
value_fits small held i = let w = held.reduced i in omega arith
