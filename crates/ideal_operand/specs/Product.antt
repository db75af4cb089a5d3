-- What the product of two ideals is.
use Rattle.std.specs.Prelude.{ℕ, List}
use Rattle.spec_arithmetic.specs.Field.{FieldName, ops}
use Rattle.spec_definitions.specs.Walk.{Ideal as Pair}
use Rattle.spec_definitions.specs.Products.{product_of}
use Rattle.base_polynomial.specs.declared.Poly.{Poly}
use Rattle.base_polynomial.specs.Over.{Is}
use Rattle.base_ideal.specs.declared.Ideal.{Ideal}

-- `common` is S and z is (Q, P) of the product of x and y
pub record Multiplied (f : FieldName) (D : List ℕ) (x y : Pair ℕ) (common : Poly) (z : Ideal) : Type 0 where
  pub s_is : Is f common (product_of (ops f) D x y).s
  pub q_is : Is f z.q (product_of (ops f) D x y).ideal.q
  pub p_is : Is f z.p (product_of (ops f) D x y).ideal.p
