-- The proofs of specs/Reduction.
use Rattle.std.specs.Prelude.{ℕ, suc, ◌+◌ as ◌+ₙ◌, ◌≤◌, ◌≡◌}
use Rattle.std.proofs.Common.{arith, sym}
use Rattle.math_ring.specs.Ring.{CRing}
use Rattle.math_ring.specs.Series.{Series}
use Rattle.math_algebra.specs.Field.{Field}
use Rattle.math_algebra.specs.Polynomial.{F, Px, ◌≺◌ as Low, Deg, low_up, low_add, low_sub, low_mul, low_path, deg_below}
use Rattle.math_surd.specs.Root.{Root, deg_twice, d_deg}
use Rattle.math_surd.specs.Ideal.{Follows}
use Rattle.math_ideals.specs.Reduction as defs

module _ {A : Type 0} (K : Field A) where
  open Series (F K) use {add as ◌+◌, mul as ◌*◌, neg as -◌, zer as 𝟘, one as 𝟙}

  infixl 6 ◌+◌ ◌-◌
  infixl 7 ◌*◌
  infix 8 -◌
  infix 4 ◌≺◌
  abbrev P[x] : Type 0
  P[x] = Px K

  abbrev R[x] : CRing P[x]
  R[x] = Series (F K)

  abbrev ◌-◌ : P[x] → P[x] → P[x]
  a - b = a + (- b)

  abbrev ◌≺◌ : P[x] → ℕ → Type 0
  ◌≺◌ = Low K

  module _ {g : ℕ} {D : P[x]} {o : Root K g D} {Q P Q' P' : P[x]} (s : Follows K o Q P Q' P') where
    open s use {κ, deg, near, norm, low}

    abbrev d : P[x]
    d = o.d

    -- the remainder of P + d by Q
    abbrev r : P[x]
    r = d - P'

    abbrev r_low : r ≺ κ
    r_low = defs.r_low K s

    abbrev product : Q' * Q ≡ r * (P' + d) + o.e
    product = defs.product K s

    abbrev two_d : d + d - r ≡ P' + d
    two_d = defs.two_d K s

    -- ---- the degrees, κ' that of Q'
    module _ {κ' : ℕ} (t : Deg K Q' κ') where
      abbrev left : Deg K (Q' * Q) (κ' +ₙ κ)
      left = defs.left K s t

      -- a reduced ideal is followed by a reduced one
      pub small_next : κ ≤ g → κ' ≤ g
      small_next l = let m = deg_below K (Q' * Q) (κ' +ₙ κ) (κ +ₙ suc g) left (low_path K _ (sym product) both) in omega arith
        where
          sum_low : P' + d ≺ suc (suc g)
          sum_low = low_path K _ two_d (low_sub K (d + d) r _ (deg_twice K d (suc g) (d_deg K o)).low (low_up K r (omega arith) r_low))

          both : r * (P' + d) + o.e ≺ κ +ₙ suc g
          both = low_add K (r * (P' + d)) o.e _ (low_mul K r (P' + d) κ (suc g) r_low sum_low) (low_up K o.e (omega arith) o.e_low)
