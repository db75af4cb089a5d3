-- What a contract says of an ideal of the code, for √D over a field of the code.
use Rattle.std.specs.Prelude.{}
use Rattle.base_surd.specs.declared.Surd.{Surd}
use Rattle.base_surd.specs.Surd.{name, g, D}
use Rattle.base_polynomial.specs.declared.Poly.{Poly}
use Rattle.base_ideal.specs.declared.Ideal.{Ideal}
use Rattle.ideal_operand.specs.Operand as operands
use Rattle.ideal_operand.specs.Product as products
pub use Rattle.ideal_operand.specs.Operand.{held_pair}

-- what a product asks of each of its two ideals
abbrev pub Operand : Surd → Ideal → Type 0
Operand s x = operands.Operand (name s) (g s) (D s) x

-- `common` is S and z is (Q, P) of the product of x and y
abbrev pub Multiplied : Surd → Ideal → Ideal → Poly → Ideal → Type 0
Multiplied s x y common z = products.Multiplied (name s) (D s) (held_pair x) (held_pair y) common z
