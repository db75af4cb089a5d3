-- Over a perfect field every monic polynomial is s·h² with h monic and s monic and squarefree, in one way.
-- There is one: a square factor goes out, and what is left has a lower degree. There is only one: let s·h² =
-- s̃·h̃² and e = gcd(h, h̃), h = e·a and h̃ = e·b. Then s·a² = s̃·b² with a and b coprime, so that a² divides
-- s̃ and a = 1; b = 1 likewise.
use Rattle.std.specs.Prelude.{ℕ, ◌+◌ as ◌+ₙ◌, ◌-◌ as ◌-ₙ◌, ◌≤◌, ◌≡◌}
use Rattle.math_ring.specs.Series.{Series}
use Rattle.math_algebra.specs.Field.{Field}
use Rattle.math_algebra.specs.Polynomial.{F, Px, Monic}
use Rattle.math_algebra.specs.Characteristic.{Perfect}
use Rattle.math_algebra.specs.Squarefree.{SquareFactor}

module _ {A : Type 0} (K : Field A) where
  open Series (F K) use {add as ◌+◌, mul as ◌*◌, neg as -◌, one as 𝟙}

  infixl 6 ◌+◌
  infixl 7 ◌*◌
  infix 8 -◌
  -- no square of a polynomial of degree 1 or more divides s
  abbrev pub Squarefree : Px K → Type 0
  Squarefree s = SquareFactor K s → ⊥

  -- f = s·h²
  pub record SquarePart (f : Px K) : Type 0 where
    pub s : Px K
    pub h : Px K
    pub s_size : ℕ
    pub h_size : ℕ
    pub s_monic : Monic K s s_size
    pub h_monic : Monic K h h_size
    pub squarefree : Squarefree s
    pub is : f ≡ s * (h * h)

  -- every monic polynomial is of this form
  abbrev pub SquarePartExists : Type 0
  SquarePartExists = Perfect K → (f : Px K) (n : ℕ) → Monic K f n → SquarePart f

  -- in one way; the field need not be perfect
  abbrev pub SquarePartUnique : Type 0
  SquarePartUnique = (f : Px K) (p r : SquarePart f) → (p.s ≡ r.s) × (p.h ≡ r.h)

  -- a square factor of a monic polynomial, made monic, with the rest
  pub record Taken (f : Px K) (n : ℕ) : Type 0 where
    pub factor : Px K
    pub rest : Px K
    pub size : ℕ
    pub some : 1 ≤ size
    pub factor_monic : Monic K factor size
    pub twice : size +ₙ size ≤ n
    pub rest_monic : Monic K rest (n -ₙ (size +ₙ size))
    pub is : f ≡ rest * (factor * factor)
