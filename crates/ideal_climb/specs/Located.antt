-- An ideal of the endless walk with its distance: of an index, of any, of the last whose distance is at most y. Such an
-- ideal is an operand of a product.
use Rattle.std.specs.Prelude.{ℕ, ◌≡◌, List}
use Rattle.std.proofs.Common.{arith, sym, ap₂, subst}
use Rattle.spec_definitions.specs.Ticket.{Ticket}
use Rattle.spec_giants.specs.Entries.{padded, ideal, δ, Last}
use Rattle.spec_giants.proofs.Entries.{q_length, p_length, padded_passes, padded_trim}
use Rattle.base_counters.specs.declared.Distance.{Distance}
use Rattle.base_polynomial.specs.Over.{Is, is_poly}
use Rattle.base_surd.specs.declared.Surd.{Surd}
use Rattle.base_surd.specs.Surd.{name, ticket_with}
use Rattle.base_ideal.specs.declared.Ideal.{Ideal}
use Rattle.ideal_operand.specs.Ideal.{Operand, held_pair}

-- z is the ideal of index i of the endless walk, and stands at its distance
pub record IsAt (s : Surd) (i : ℕ) (z : Ideal) (distance : Distance) : Type 0 where
  pub q_is : Is (name s) z.q (ideal (ticket_with s 0) i).q
  pub p_is : Is (name s) z.p (ideal (ticket_with s 0) i).p
  pub distance_is : distance.0 ≡ δ (ticket_with s 0) i

-- of some index
pub record OnWalk (s : Surd) (z : Ideal) (distance : Distance) : Type 0 where
  pub at : ℕ
  pub is : IsAt s at z distance

-- of the last index whose distance is at most y
pub record IsLast (s : Surd) (y : ℕ) (z : Ideal) (distance : Distance) : Type 0 where
  pub at : ℕ
  pub is : IsAt s at z distance
  pub last : Last (ticket_with s 0) y at

module _ {s : Surd} {i : ℕ} {z : Ideal} {distance : Distance} (t : IsAt s i z distance) where
  abbrev T : Ticket
  T = ticket_with s 0

  pub on_walk_operand : Operand s z
  on_walk_operand = record {
    pair = padded T (ideal T i);
    passes = padded_passes T s.admitted i;
    q_is = subst (Is (name s) z.q) (sym (padded_trim T s.admitted i).0) t.q_is;
    p_is = subst (Is (name s) z.p) (sym (padded_trim T s.admitted i).1) t.p_is;
  }

  pub on_walk_pair : held_pair z ≡ ideal T i
  on_walk_pair =
      let a = q_length T s.admitted i in
      let b = p_length T s.admitted i in
      let g = s.admitted.genus_most in
      ap₂ (λ (u v : List ℕ). record { q = u; p = v }) (is_poly {a = z.q} t.q_is (omega arith)) (is_poly {a = z.p} t.p_is (omega arith))
