-- The theorem a reader opens: over a perfect field the monic polynomials of degree n − 1 and the monic
-- polynomials of degree n with a square factor correspond one to one, n ≥ 2. The polynomial t = c + x·s·h², s
-- squarefree, has the partner D = s·(c + x·h)². So there are as many of these as of those, q^(n−1) over a
-- field of q elements.
use Rattle.std.specs.Prelude.{ℕ, suc, ◌≡◌}
use Rattle.math_ring.specs.Series.{Series, con, tail}
use Rattle.math_ring.specs.Division.{up}
use Rattle.math_algebra.specs.Field.{Field}
use Rattle.math_algebra.specs.Polynomial.{F, Px, Monic}
use Rattle.math_algebra.specs.Characteristic.{Perfect}
use Rattle.math_algebra.specs.Squarefree.{SquareFactor}
use Rattle.math_counting.specs.Pigeonhole.{Bijection}
use Rattle.math_counting.specs.SquarePart.{SquarePart}

module _ {A : Type 0} (K : Field A) where
  open Series (F K) use {add as ◌+◌, mul as ◌*◌}

  infixl 6 ◌+◌
  infixl 7 ◌*◌
  -- c + x·h
  abbrev pub plus_x : A → Px K → Px K
  plus_x c h = con (F K) c + up (F K) h

  -- t = c + x·s·h² and D = s·(c + x·h)²
  pub record Lifts (t D : Px K) : Type 0 where
    pub part : SquarePart K (tail (F K) t)
    pub is : D ≡ part.s * (plus_x (t 0) part.h * plus_x (t 0) part.h)

  -- the monic t of degree n + 1 and the monic D of degree n + 2 with a square factor correspond one to one
  abbrev pub SquareFactors : Type 0
  SquareFactors = Perfect K → (n : ℕ) → Bijection Lifts (λ t. Monic K t (suc n)) (λ D. Monic K D (suc (suc n)) × SquareFactor K D)
