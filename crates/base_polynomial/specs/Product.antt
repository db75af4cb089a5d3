-- The places of two records' product make the record of their polynomials' product.
use Rattle.std.specs.Prelude.{◌≡◌, List, ℕ, ◌<◌, get_or}
use Rattle.std.proofs.Common.{sym, ap, ◌∙◌}
use Rattle.std.proofs.Math.Path.{fun_ext}
use Rattle.spec_arithmetic.specs.Field.{modulo, prime}
use Rattle.spec_arithmetic.specs.Polynomials.{mul}
use Rattle.spec_bridge.specs.Arithmetic.{trim_mul, mul_cong}
use Rattle.spec_bridge.specs.Residues.{model}
use Rattle.base_places.specs.Places.{Places, Top}
use Rattle.base_polynomial.specs.Record.{poly, Held, Is}
use Rattle.base_polynomial.specs.Held.{held_positive, at_poly}
use Rattle.base_polynomial.specs.Linear.{is_result}
pub use Rattle.base_places.specs.Dots.{dots_all}

-- the places of two records, or their polynomials: the product is the same
module _ (q : ℕ) (a : List ℕ) (m : ℕ) (held_a : Held (prime q) a m) (b : List ℕ) (n : ℕ) (held_b : Held (prime q) b n) where
  pos : 0 < q
  pos = held_positive q a m held_a

  mul_poly : mul (modulo q) a b ≡ mul (modulo q) (poly a m) (poly b n)
  mul_poly =
      mul_cong (model q pos) a (poly a m) b (poly b n) (fun_ext (λ i. ap (model q pos).φ (sym (at_poly q a m held_a i)))) (fun_ext (λ i. ap (model q pos).φ (sym (at_poly q b n held_b i))))

  pub is_mul : (c : List ℕ) (size : ℕ) → Top c size → Places c (λ i. get_or (mul (modulo q) a b) i 0) → Is (prime q) c size (mul (modulo q) (poly a m) (poly b n))
  is_mul c size t p = is_result q pos c size _ (trim_mul (model q pos) (poly a m) (poly b n)) (record { long = p.long; at = λ i. p.at i ∙ ap (λ (l : List ℕ). get_or l i 0) mul_poly }) t
