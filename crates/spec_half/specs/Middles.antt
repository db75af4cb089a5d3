-- The tests of half the walk on lists are those on polynomials, and the search for the first i finds it.
use Prim.Native.Nat.{ℕ, ◌<◌}
use Rattle.std.specs.Prelude.{List}
use Rattle.std.proofs.Math.Option.{Option, none, some}
use Rattle.math_ring.specs.Series.{Series}
use Rattle.math_algebra.specs.Field.{Field}
use Rattle.math_algebra.specs.Polynomial.{F}
use Rattle.math_symmetry.specs.Half.{MiddleQ, MiddleP, NoMiddle}
use Rattle.spec_arithmetic.specs.Field.{Ops}
use Rattle.spec_bridge.specs.Model.{Model}
use Rattle.spec_laws.specs.Surd.{Surd}
use Rattle.spec_laws.specs.Fraction.{fraction}
use Rattle.spec_half.specs.Half.{Middle, by_q, by_p}

module _ {A B : Type 0} {o : Ops A} {K : Field B} {M : Model o (F K)} {g : ℕ} {D d : List A} (s : Surd K M g D d) where
  open Series (F K) use {add as ◌+◌, neg as -◌, zer as 𝟘, one as 𝟙}

  infixl 6 ◌+◌
  infix 8 -◌
  -- ---- the search from 0 up, among b indices
  abbrev pub Searched : ℕ → Option Middle → Type 0
  Searched b none = NoMiddle K (fraction s) b
  Searched b (some (by_q i)) = (i < b) × NoMiddle K (fraction s) i × MiddleQ K (fraction s) i
  Searched b (some (by_p i)) = (i < b) × NoMiddle K (fraction s) i × (¬ MiddleQ K (fraction s) i) × MiddleP K (fraction s) i
