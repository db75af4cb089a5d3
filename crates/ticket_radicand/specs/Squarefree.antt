-- The test for square factors on arrays: the size of gcd(D, D') is that of the definition's, since each
-- result is trimmed.
use Rattle.std.specs.Prelude.{ℕ, ◌<◌, ◌≡◌, eqb}
use Rattle.std.proofs.Common.{arith, sym, ◌∙◌}
use Rattle.std.proofs.Math.Path.{ap}
use Rattle.std.proofs.Math.Bool.{not}
use mathlib.Core.List.{List}
use Rattle.std.proofs.Math.ListN.{length}
use Rattle.spec_arithmetic.specs.Field.{FieldName, ops}
use Rattle.spec_arithmetic.specs.Polynomials.{size, gcd, derivative}
use Rattle.spec_definitions.specs.Ticket.{not_squarefree}
use Rattle.spec_bridge.specs.Prime.{Prime}
use Rattle.spec_bridge.specs.Residues.{model, inverts}
use Rattle.spec_bridge.specs.Derivative.{trim_derivative, oks_derivative, length_derivative}
use Rattle.spec_bridge.specs.Bezout.{trim_gcd}
use Rattle.base_polynomial.specs.Record.{poly, Held, Is}
use Rattle.base_polynomial.specs.Held.{held_positive}
use Rattle.base_polynomial.specs.Result.{Result, result, held_size}

-- a is D, of n places, and b its derivative, of m
module _ {f : FieldName} {a : List ℕ} {n : ℕ} (held : Held f a n) {b : List ℕ} {m : ℕ} (is : Is f b m (derivative (ops f) (poly a n))) where
  pos : 0 < f.q
  pos = held_positive f.q a n held

  derivative_result : Result f.q b m (derivative (ops f) (poly a n))
  derivative_result =
      let s = held.short in
      let z = held_size f.q a n held in
      let l = length_derivative (model f.q pos) (poly a n) in
      result f.q b m _ is (omega arith) (trim_derivative (model f.q pos) (poly a n)) (oks_derivative (model f.q pos) (poly a n))

  pub held_derivative : Held f b m
  held_derivative = derivative_result.held

  pub not_squarefree_test : Prime f.q → {g : List ℕ} {k : ℕ} → Is f g k (gcd (ops f) (poly a n) (poly b m)) → not (eqb k 1) ≡ not_squarefree f (poly a n)
  unfolding not_squarefree size
  not_squarefree_test p r =
      ap (λ (s : ℕ). not (eqb s 1))
      (r.size_is
      ∙ ap (λ (l : List ℕ). length (gcd (ops f) (poly a n) l)) derivative_result.is
      ∙ ap length (sym (trim_gcd (model f.q pos) (inverts f.q pos p) (poly a n) (derivative (ops f) (poly a n)))))
