-- The quadratic extension of the field of q elements, q an odd prime, by any ν that is no square modulo q. It
-- is a perfect field, so that all that is proved over such a field holds over it.
-- What a reader wants of it: the least degree read off the walk, the product of two ideals, the test for
-- square factors. Each is an instance.
use Rattle.std.specs.Prelude.{ℕ, suc, ◌*◌ as ◌*ₙ◌, ◌%◌, ◌≤◌, ◌<◌, ◌≡◌, ◌↔◌}
use Rattle.math_ring.specs.Series.{Series}
use Rattle.math_ring.specs.Residues.{Fq, to}
use Rattle.math_algebra.specs.Field.{Field}
use Rattle.math_algebra.specs.Polynomial.{F, Px, Deg}
use Rattle.math_algebra.specs.Divides.{Divides}
use Rattle.math_algebra.specs.Gcd.{IsGcd}
use Rattle.math_algebra.specs.Derivative.{derivative}
use Rattle.math_algebra.specs.Prime.{Prime}
use Rattle.math_algebra.specs.Squarefree.{SquareFactor}
use Rattle.math_surd.specs.Root.{Root}
use Rattle.math_surd.specs.Step.{State}
use Rattle.math_surd.specs.Walk.{Walk}
use Rattle.math_surd.specs.Convergents.{p, s}
use Rattle.math_surd.specs.Distance.{distance}
use Rattle.math_surd.specs.QuasiPeriod.{QuasiPeriod, NoneConstant}
use Rattle.math_surd.specs.LeastDegree.{Solution}
use Rattle.math_ideals.specs.Product.{Common, Multipliers, product_Q, product_P}
use Rattle.spec_bridge.specs.Residues.{pos, field}
use Rattle.math_quadratic.specs.Pairs.{Pair}
use Rattle.math_quadratic.specs.Extension.{NonSquare, extension}

-- no number's square is ν modulo q
abbrev pub NonSquareModulo : ℕ → ℕ → Type 0
NonSquareModulo q ν = (a : ℕ) → (a *ₙ a) % q ≡ ν % q → ⊥

module _ (q : ℕ) (prime : Prime q) (more : 2 < q) (ν : ℕ) (n : NonSquare (field q prime more) (to q (pos q prime) ν)) where
  -- the field of q² elements
  abbrev pub E : Field (Pair (Fq q))
  E = extension (field q prime more) (to q (pos q prime) ν) n

  open Series (F E) use {add as ◌+◌, mul as ◌*◌, neg as -◌}

  infixl 6 ◌+◌ ◌-◌
  infixl 7 ◌*◌
  infix 8 -◌
  abbrev ◌-◌ : Px E → Px E → Px E
  a - b = a + (- b)

  -- ---- walks: X² − D-as-Y² is a constant other than 0, and Y ≠ 0
  -- while no Q from the index 1 to b is constant, the degree of X is above that of the convergent p of index
  -- b − 1
  abbrev pub Spent : Type 0
  Spent = (g : ℕ) (D : Px E) (o : Root E g D) (w : Walk E o) (b : ℕ) → NoneConstant E w b → (X Y : Px E) → Solution E D X Y → (k : ℕ) × Deg E X k × (distance E w b < k)

  -- with m the first such index from 1 on, it is at least that of the convergent p of index m − 1
  abbrev pub Found : Type 0
  Found = (g : ℕ) (D : Px E) (o : Root E g D) (w : Walk E o) (m : ℕ) → QuasiPeriod E w m → (X Y : Px E) → Solution E D X Y → (k : ℕ) × Deg E X k × (distance E w m ≤ k)

  -- and the convergent of this index is a solution of that degree
  abbrev pub Reached : Type 0
  Reached = (g : ℕ) (D : Px E) (o : Root E g D) (w : Walk E o) (m : ℕ) → QuasiPeriod E w m → Solution E D (p E w (suc m)) (s E w (suc m)) × Deg E (p E w (suc m)) (distance E w m)

  -- ---- the product (Q, P) of the ideals (Q₁, P₁) and (Q₂, P₂)
  -- is an ideal: Q divides D − P²
  abbrev pub ProductIdeal : Type 0
  ProductIdeal = (D Q₁ C₁ P₁ Q₂ C₂ P₂ S : Px E) (s₁ : State E D Q₁ C₁ P₁) (s₂ : State E D Q₂ C₂ P₂) (c : Common E Q₁ Q₂ (P₁ + P₂) S) (b : Multipliers E Q₁ Q₂ (P₁ + P₂) S)
      → Divides E (product_Q E s₁ s₂ c) (D - product_P E s₁ s₂ c b * product_P E s₁ s₂ c b)

  -- P is the same modulo Q for any U, V, W
  abbrev pub ProductSame : Type 0
  ProductSame = (D Q₁ C₁ P₁ Q₂ C₂ P₂ S : Px E) (s₁ : State E D Q₁ C₁ P₁) (s₂ : State E D Q₂ C₂ P₂) (c : Common E Q₁ Q₂ (P₁ + P₂) S) (b b' : Multipliers E Q₁ Q₂ (P₁ + P₂) S)
      → Divides E (product_Q E s₁ s₂ c) (product_P E s₁ s₂ c b - product_P E s₁ s₂ c b')

  -- ---- square factors: the square of a polynomial of degree 1 or more divides D exactly where the gcd of D and D' is not constant
  abbrev pub SquareTest : Type 0
  SquareTest = (D G : Px E) (k : ℕ) → Deg E D k → IsGcd E D (derivative (F E) D) G → SquareFactor E D ↔ ((m : ℕ) × (1 ≤ m) × Deg E G m)
