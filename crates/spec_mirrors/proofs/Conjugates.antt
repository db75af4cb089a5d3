-- The proofs of specs/Conjugates.
use Rattle.std.specs.Prelude.{ℕ, zero, suc, ◌-◌, ◌<◌, ◌≡◌, [], ◌∷◌}
use native.Mathlib.Omega.{arith}
use Rattle.std.proofs.Common.{sym, ◌∙◌}
use Rattle.math_ring.specs.Identity.{ring, quote}
use Rattle.math_ring.specs.Series.{Series, add_s, neg_s}
use Rattle.math_algebra.specs.Field.{Field}
use Rattle.math_algebra.specs.Polynomial.{F}
use Rattle.math_algebra.specs.Divides.{Divides, divides_path}
use Rattle.math_algebra.specs.Associate.{associate_monic_equal}
use Rattle.math_surd.specs.Ideal.{SameIdeal}
use Rattle.math_surd.proofs.Ideal.{same_sym, same_trans, same_path, same_neg}
use Rattle.math_surd.specs.QuasiPeriod.{QuasiPeriod}
use Rattle.math_symmetry.specs.Conjugate.{Conjugate, conjugate_distance, Conjugates}
use Rattle.math_symmetry.proofs.Conjugate.{conjugates}
use Rattle.math_symmetry.proofs.Distinct.{distinct}
use Rattle.spec_arithmetic.specs.Polynomials.{deg, root}
use Rattle.spec_definitions.specs.Ticket.{Ticket, genus}
use Rattle.spec_definitions.specs.Walk.{degree_before}
use Rattle.spec_definitions.specs.Walk as walk
use Rattle.spec_definitions.specs.Answers.{ops_of, root_of}
use Rattle.spec_definitions.specs.Listing.{ideal_of, entry_of, mirror_of}
use Rattle.spec_bridge.specs.Model.{Model, series}
use Rattle.spec_bridge.specs.Trim.{series_ext}
use Rattle.spec_bridge.specs.Monic.{deg_monic}
use Rattle.spec_fields.specs.Named.{arithmetic}
use Rattle.spec_laws.specs.Surd.{Surd}
use Rattle.spec_laws.specs.Fraction.{fraction}
use Rattle.spec_laws.specs.Walk.{deg_Q}
use Rattle.spec_laws.specs.Admitted.{Admitted, is_field, surd_of}
use Rattle.spec_expansion.specs.QuasiPeriod.{IsQuasiPeriod}
use Rattle.spec_expansion.proofs.QuasiPeriod.{period_of}
use Rattle.spec_answers.specs.Outcomes.{degree_at}
use Rattle.spec_giants.specs.Entries.{ideal, δ, entry_ideal, entry_same}
use Rattle.spec_giants.proofs.Entries.{q_trim, q_oks, distance_is, distance_rise}
use Rattle.spec_mirrors.specs.Conjugates as defs

module _ (t : Ticket) where
  abbrev μ : ℕ → ℕ → ℕ
  μ = defs.μ t

  module _ (h : Admitted t.field (genus t.n) t.D) where
    abbrev K : Field (arithmetic t.field (is_field h)).Elements
    K = (arithmetic t.field (is_field h)).K

    abbrev M : Model (ops_of t) (F K)
    M = (arithmetic t.field (is_field h)).M

    abbrev z : Surd K M (genus t.n) t.D (root (ops_of t) t.D (suc (genus t.n)))
    z = surd_of h

    -- ---- the lists of conjugates
    module _ (i j : ℕ) (c : Conjugate K (fraction z) i j) where
      lists_conjugate : SameIdeal K (series M (ideal t i).q) (series M (ideal t i).p) (series M (ideal t j).q) (neg_s (F K) (series M (ideal t j).p))
      unfolding root_of
      lists_conjugate = same_trans K (entry_same t h i) (same_trans K c (same_neg K (same_sym K (entry_same t h j))))

      -- the same Q
      pub conjugate_Q : (ideal t i).q ≡ (ideal t j).q
      conjugate_Q = series_ext M _ _ (q_trim t h i) (q_trim t h j) (q_oks t h i) (q_oks t h j) (associate_monic_equal K (entry_ideal t h i).monic (entry_ideal t h j).monic lists_conjugate.ratio)

      -- and Q divides the sum of the two P
      pub conjugate_sum : Divides K (series M (ideal t j).q) (add_s (F K) (series M (ideal t i).p) (series M (ideal t j).p))
      conjugate_sum = divides_path K (ring (Series (F K)) (series M (ideal t i).p ∷ series M (ideal t j).p ∷ []) (search quote depth 40 fits 9999) tt) lists_conjugate.congruent

    -- ---- their indices and distances
    module _ (R m : ℕ) (quasi : IsQuasiPeriod t m) (is : R ≡ degree_at t m) where
      period : QuasiPeriod K (fraction z) m
      period = period_of t h m quasi

      symmetry : Conjugates K (fraction z) m
      symmetry = conjugates K (fraction z) m period.constant

      R_is : R ≡ δ t m
      unfolding entry_of degree_before
      R_is = is

      degree_is : (j : ℕ) → deg (ops_of t) (ideal t j).q ≡ (fraction z).κ j
      unfolding entry_of ideal_of root_of
      degree_is j = let a = deg_monic M z.inverts (walk.Q (ops_of t) t.D (root_of t) j) in let b = deg_Q z j in omega arith

      mirror_is : (j : ℕ) → μ R j ≡ conjugate_distance K (fraction z) m j
      unfolding mirror_of
      mirror_is j = let a = R_is in let b = distance_is t h m in let c = distance_is t h j in let e = degree_is j in omega arith

      abbrev at : ℕ → ℕ
      at = defs.at t h R m quasi is

      pub at_less : (j : ℕ) → j < m → at j < m
      at_less zero l = l
      at_less (suc j) l = omega arith

      pub at_conjugate : (j : ℕ) → j < m → Conjugate K (fraction z) (at j) j
      at_conjugate zero l = symmetry.first
      at_conjugate (suc j) l = symmetry.conjugate (suc j) (omega arith)

      -- the mirror is R at index 0 and below R at the others
      pub mirror_first : μ R 0 ≡ R
      mirror_first = mirror_is 0 ∙ symmetry.first_distance ∙ sym (distance_is t h m) ∙ sym R_is

      pub mirror_later : (j : ℕ) → 0 < j → j < m → μ R j < R
      mirror_later j some l = let a = mirror_is j in let b = symmetry.later_distance j some (omega arith) in let c = distance_is t h m in let e = R_is in omega arith

      pub at_distance : (j : ℕ) → j < m → μ R j < R → δ t (at j) ≡ μ R j
      at_distance zero l less = absurd (let e = mirror_first in omega arith)
      at_distance (suc j) l less = distance_is t h (m - suc j) ∙ symmetry.distance_is (suc j) (omega arith) ∙ sym (mirror_is (suc j))

      -- no other index below m has that distance
      pub at_only : (i j : ℕ) → i < m → j < m → δ t i ≡ μ R j → i ≡ at j
      at_only i zero k l e = absurd (let a = mirror_first in let b = R_is in let c = distance_rise t h i m k in omega arith)
      at_only i (suc j) k l e = symmetry.only i (suc j) (omega arith) (sym (distance_is t h i) ∙ e ∙ mirror_is (suc j))

      -- indices below m whose ideals have the same polynomials are the same
      pub one_each : (i j : ℕ) → i < m → j < m → series M (ideal t i).q ≡ series M (ideal t j).q → series M (ideal t i).p ≡ series M (ideal t j).p → i ≡ j
      unfolding root_of
      one_each i j k l eq ep = (distinct K (fraction z) m period).one_each i j k l (same_trans K (same_sym K (entry_same t h i)) (same_trans K (same_path K eq ep) (entry_same t h j)))
