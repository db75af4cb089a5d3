-- The proofs of specs/Walks.
use Rattle.std.specs.Prelude.{ℕ, ◌*◌ as ◌*ₙ◌, ◌<◌}
use Rattle.std.proofs.Common.{ap₂, ◌∙◌}
use Rattle.math_ring.specs.Series.{Series}
use Rattle.math_ring.specs.Residues.{Fq, to, mul_f}
use Rattle.math_algebra.specs.Field.{Field}
use Rattle.math_algebra.specs.Polynomial.{F, Px}
use Rattle.math_algebra.specs.Finite.{finite_monic}
use Rattle.math_algebra.specs.Characteristic.{Perfect}
use Rattle.math_algebra.specs.Fermat.{residue_zero, fermat_residue}
use Rattle.math_algebra.specs.Prime.{Prime}
use Rattle.math_algebra.specs.Squarefree.{square_gcd, gcd_square}
use Rattle.math_surd.proofs.LeastDegree as least
use Rattle.math_ideals.proofs.Product.{product_meets, meets_norm, meets_same}
use Rattle.spec_bridge.specs.Residues.{pos, field, to_val, to_mul, to_back}
use Rattle.math_quadratic.specs.Pairs.{Pair}
use Rattle.math_quadratic.specs.Extension.{NonSquare}
use Rattle.math_quadratic.proofs.Roots.{perfect_extension}
use Rattle.spec_quadratic.specs.Walks.{NonSquareModulo}
use Rattle.spec_quadratic.specs.Walks as defs

module _ (q : ℕ) (prime : Prime q) (more : 2 < q) (ν : ℕ) (n : NonSquareModulo q ν) where
  pub non_square : NonSquare (field q prime more) (to q (pos q prime) ν)
  non_square a e = n a.0 (to_val q (pos q prime) (a.0 *ₙ a.0) ν (to_mul q (pos q prime) a.0 a.0 ∙ ap₂ (mul_f q (pos q prime)) (to_back q prime a) (to_back q prime a) ∙ e))

  abbrev E : Field (Pair (Fq q))
  E = defs.E q prime more ν non_square

  open Series (F E) use {add as ◌+◌, mul as ◌*◌, neg as -◌}

  infixl 6 ◌+◌ ◌-◌
  infixl 7 ◌*◌
  infix 8 -◌
  abbrev ◌-◌ : Px E → Px E → Px E
  a - b = a + (- b)

  abbrev Spent : Type 0
  Spent = defs.Spent q prime more ν non_square

  abbrev Found : Type 0
  Found = defs.Found q prime more ν non_square

  abbrev Reached : Type 0
  Reached = defs.Reached q prime more ν non_square

  abbrev ProductIdeal : Type 0
  ProductIdeal = defs.ProductIdeal q prime more ν non_square

  abbrev ProductSame : Type 0
  ProductSame = defs.ProductSame q prime more ν non_square

  abbrev SquareTest : Type 0
  SquareTest = defs.SquareTest q prime more ν non_square

  -- ---- the proof
  -- the q-th root of c is c^q
  pub perfect : Perfect E
  perfect = perfect_extension (field q prime more) (to q (pos q prime) ν) non_square q prime more (residue_zero q (pos q prime)) (fermat_residue q (pos q prime) prime)

  pub spent : Spent
  spent g D o w b none X Y = least.spent E w b none

  pub found : Found
  found g D o w m first X Y = least.found E w m first

  pub reached : Reached
  reached g D o w m first = (least.reached E w m first, least.reached_deg E w m first)

  pub product_ideal : ProductIdeal
  product_ideal D Q₁ C₁ P₁ Q₂ C₂ P₂ S s₁ s₂ c b = meets_norm E (finite_monic E c.monic) (product_meets E s₁ s₂ c b)

  pub product_same : ProductSame
  product_same D Q₁ C₁ P₁ Q₂ C₂ P₂ S s₁ s₂ c b b' = meets_same E s₁ s₂ c b (product_meets E s₁ s₂ c b) (product_meets E s₁ s₂ c b')

  pub square_test : SquareTest
  square_test D G k t i = (square_gcd E t i, λ r. gcd_square E perfect i r.1 r.2)
