-- What half the walk tells on lists: where it stops within b indices, the quasi-period within 2b and the degree
-- of its convergent p; where it does not, that no Q of index 1 to 2b is constant.
use Prim.Native.Nat.{ℕ, ◌*◌}
use Rattle.std.specs.Prelude.{◌≡◌, List}
use Rattle.std.proofs.Math.Option.{Option, none, some}
use Rattle.math_algebra.specs.Field.{Field}
use Rattle.math_algebra.specs.Polynomial.{F}
use Rattle.spec_arithmetic.specs.Field.{Ops}
use Rattle.spec_definitions.specs.Walk.{degree_before}
use Rattle.spec_bridge.specs.Model.{Model}
use Rattle.spec_laws.specs.Surd.{Surd}
use Rattle.spec_laws.specs.QuasiPeriod.{Quasi, NoQuasi}
use Rattle.spec_half.specs.Half.{Middle, middle_period, middle_regulator}

module _ {A B : Type 0} {o : Ops A} {K : Field B} {M : Model o (F K)} {g : ℕ} {D d : List A} (s : Surd K M g D d) where
  -- ---- what the search tells
  pub record Tells (b : ℕ) (x : Middle) : Type 0 where
    pub period : Quasi o D d (2 * b) (middle_period x)
    pub regulator : middle_regulator o D d x ≡ degree_before o D d (middle_period x)

  abbrev pub HalfSays : ℕ → Option Middle → Type 0
  HalfSays b none = NoQuasi o D d (2 * b)
  HalfSays b (some x) = Tells b x
