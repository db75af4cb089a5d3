-- How long the results of calls on polynomials are: sums and Bezout's first factor.
use Rattle.std.specs.Prelude.{ℕ, ◌≤◌, ◌<◌}
use Rattle.std.proofs.Common.{arith, ⊎_elim}
use Rattle.math_ring.specs.Order.{le_or_lt}
use Rattle.spec_arithmetic.specs.Field.{FieldName, ops}
use Rattle.spec_arithmetic.specs.Polynomials.{add, bezout}
use Rattle.spec_bridge.specs.Trim.{trim_nil}
use Rattle.spec_bridge.specs.Lengths.{length_add}
use Rattle.spec_bridge.specs.BezoutLength.{bezout_u_length, bezout_u_constant}
use Rattle.spec_bridge.specs.Prime.{Prime}
use Rattle.spec_bridge.specs.Residues.{model, inverts}
use Rattle.base_polynomial.specs.declared.Poly.{Poly}
use Rattle.base_polynomial.specs.Over.{poly, Held, Is, held_positive, held_size}

module _ {f : FieldName} (a b : Poly) (held_a : Held f a) (held_b : Held f b) (z : Poly) (k : ℕ) where
  pos : 0 < f.q
  pos = held_positive {a = a} held_a

  pub size_add : Is f z (add (ops f) (poly a) (poly b)) → a.size ≤ k → b.size ≤ k → z.size ≤ k
  size_add r h l =
      let x = held_size {a = a} held_a in
      let y = held_size {a = b} held_b in
      let e = r.size_is in
      let w = length_add (model f.q pos) (poly a) (poly b) k (omega arith) (omega arith) in
      omega arith

  -- the first factor is shorter than the second polynomial, or a constant
  pub size_u : Prime f.q → Is f z (bezout (ops f) (poly a) (poly b)).u → 1 ≤ k → b.size ≤ k → z.size ≤ k
  size_u p r h l =
      let y = held_size {a = b} held_b in
      let e = r.size_is in
      ⊎_elim (λ w. let t = bezout_u_length (model f.q pos) (inverts f.q pos p) (poly a) (poly b) (omega arith) in omega arith) (λ w. let t = bezout_u_constant (model f.q pos) (inverts f.q pos p) (poly a) (poly b) (trim_nil (model f.q pos) (poly b) (omega arith)) in omega arith) (le_or_lt 1 b.size)
