-- From the last ideal for y div 2 to that for y: what a giant step with itself asks for, and where it lands, an ideal of
-- the walk at a distance of at most y.
use Rattle.std.specs.Prelude.{ℕ, ◌/◌, ◌≤◌, ◌≡◌, T, ℤ, pos, nat_abs}
use Rattle.std.proofs.Common.{arith, sym, ap, ap₂, ◌∙◌, subst, Fits, to_z, of_z}
use Rattle.std.specs.Int.Signed.{non_neg}
use Rattle.std.specs.Int.{w64}
use Rattle.std.proofs.lemmas.Int.{to_z-of_z}
use Rattle.math_giants.proofs.Below.{halves}
use Rattle.spec_definitions.specs.Ticket.{Ticket}
use Rattle.spec_definitions.specs.Walk.{Ideal as Pair}
use Rattle.spec_definitions.specs.Products.{farthest, giant_done}
use Rattle.spec_giants.specs.Entries.{ideal, δ}
use Rattle.spec_giants.specs.Landings.{Lands}
use Rattle.spec_giants.proofs.Landings.{lands}
use Rattle.spec_ideal_at.proofs.Reached.{landing_near}
use Rattle.base_counters.specs.declared.Distance.{Distance}
use Rattle.base_polynomial.specs.Over.{Is}
use Rattle.base_surd.specs.declared.Surd.{Surd}
use Rattle.base_surd.specs.Surd.{name, ticket_with}
use Rattle.base_ideal.specs.declared.Ideal.{Ideal}
use Rattle.ideal_operand.specs.Ideal.{Operand, held_pair}
use Rattle.ideal_giant.specs.declared.Shift.{Shift}
use Rattle.ideal_giant.specs.Stepped.{Stepped}
use Rattle.ideal_climb.specs.Located.{OnWalk, IsLast, on_walk_operand, on_walk_pair}

-- the same distance, told by another number
pub last_path : {s : Surd} {v y : ℕ} {z : Ideal} {at : Distance} → v ≡ y → IsLast s v z at → IsLast s y z at
last_path {s} {v} {y} {z} {at} e t = subst (λ (w : ℕ). IsLast s w z at) e t

-- a signed number of 64 bits that is not negative, cast to an unsigned one
module _ {z : ℤ} {a : ℕ} (e : z ≡ pos a) (l : a ≤ farthest) where
  signed_is : to_z w64 (of_z w64 z) ≡ pos a
  signed_is = ap (λ (u : ℤ). to_z w64 (of_z w64 u)) e ∙ to_z-of_z w64 (pos a) (record { sfits = omega arith })

  pub cast_fits : T (non_neg (to_z w64 (of_z w64 z))) × Fits w64 (nat_abs (to_z w64 (of_z w64 z)))
  cast_fits = subst (λ (u : ℤ). T (non_neg u) × Fits w64 (nat_abs u)) (sym signed_is) (tt, record { fits = omega arith })

  pub cast_is : nat_abs (to_z w64 (of_z w64 z)) ≡ a
  cast_is = ap nat_abs signed_is

module _ (root : Surd) (y : ℕ) {z : Ideal} {at : Distance} (s : IsLast root (y / 2) z at) where
  abbrev t : Ticket
  t = ticket_with root 0

  abbrev x : Pair ℕ
  x = held_pair z

  -- ---- what the giant step asks for
  pub operand : Operand root z
  operand = on_walk_operand s.is

  pub distance_near : y ≤ farthest → at.0 ≤ farthest
  distance_near l = let a = s.is.distance_is in let b = s.last.low in let c = halves y in omega arith

  -- ---- where it lands
  done_is : giant_done t x at.0 x at.0 ≡ giant_done t (ideal t s.at) (δ t s.at) (ideal t s.at) (δ t s.at)
  done_is = ap₂ (λ (v : Pair ℕ) (e : ℕ). giant_done t v e v e) (on_walk_pair s.is) s.is.distance_is

  pub landing : Lands t s.at s.at (giant_done t x at.0 x at.0)
  landing = subst (Lands t s.at s.at) (sym done_is) (lands t root.admitted s.at s.at)

  pub landed_near : δ t landing.at ≤ y
  landed_near = (landing_near t root.admitted {y = y} s.last landing.at landing.few landing.sum).0

  module _ {a : Ideal} {to : Shift} (u : Stepped root z at.0 z at.0 a to) where
    -- the distance is not negative
    pub distance_landed : to.distance ≡ pos (δ t landing.at)
    distance_landed = u.distance_is 0 ∙ landing.distance_is

    pub landed : {reached : Distance} → reached.0 ≡ δ t landing.at → OnWalk root a reached
    landed d = record {
      at = landing.at;
      is = record { q_is = subst (Is (name root) a.q) landing.q_is (u.q_is 0); p_is = subst (Is (name root) a.p) landing.p_is (u.p_is 0); distance_is = d };
    }
