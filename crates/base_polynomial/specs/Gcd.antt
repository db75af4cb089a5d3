-- The rules of the greatest common divisor and of its factors, as the recursion reads them: by the size of
-- the second record.
use Rattle.std.specs.Prelude.{◌≡◌, List, ℕ, ◌<◌}
use Rattle.std.proofs.Common.{◌∙◌, arith}
use Rattle.spec_arithmetic.specs.Field.{modulo, prime}
use Rattle.spec_arithmetic.specs.Polynomials.{rem, monic, gcd}
use Rattle.spec_bridge.specs.Trim.{trim_nil}
use Rattle.spec_bridge.specs.Gcd.{gcd_zero, gcd_rule}
use Rattle.spec_bridge.specs.Prime.{Prime}
use Rattle.spec_bridge.specs.Residues.{model, inverts}
use Rattle.base_polynomial.specs.Record.{poly, Held}
use Rattle.base_polynomial.specs.Held.{held_positive}
use Rattle.base_polynomial.specs.Result.{held_size}

module _ (q : ℕ) (p : Prime q) (a : List ℕ) (m : ℕ) (b : List ℕ) (n : ℕ) (held_b : Held (prime q) b n) where
  pos : 0 < q
  pos = held_positive q b n held_b

  pub gcd_none : n ≡ 0 → gcd (modulo q) (poly a m) (poly b n) ≡ monic (modulo q) (poly a m)
  gcd_none h = gcd_zero (model q pos) (inverts q pos p) (poly a m) (poly b n) (trim_nil (model q pos) (poly b n) (held_size q b n held_b ∙ h))

  pub gcd_some : 0 < n → gcd (modulo q) (poly a m) (poly b n) ≡ gcd (modulo q) (poly b n) (rem (modulo q) (poly a m) (poly b n))
  gcd_some h = let e = held_size q b n held_b in gcd_rule (model q pos) (inverts q pos p) (poly a m) (poly b n) (omega arith)
