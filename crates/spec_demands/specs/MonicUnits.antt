-- R-3, monic units: where a ticket's outcome is `found`, p and s of the unit are monic, and λ times them are
-- p_{m−1} and s_{m−1}, where λ is the leading coefficient of p_{m−1}; a solution of degree R with a monic p is the
-- unit itself, up to the sign of s. T2 says which c, and T3 that the unit solves, has degree R and norm c and is least.
use Rattle.std.specs.Prelude.{ℕ, suc, ◌+◌, ◌≡◌, ◌⊎◌, List}
use Rattle.std.proofs.Math.ListN.{get_or}
use Rattle.spec_arithmetic.specs.Field.{FieldName, ops, reading}
use Rattle.spec_arithmetic.specs.Polynomials.{deg, lead, scale, root}
use Rattle.spec_definitions.specs.Ticket.{genus, ticket_of}
use Rattle.spec_definitions.specs.Walk.{Unit as UnitPair, p_before, s_before, unit_of}
use Rattle.spec_definitions.specs.Answers.{Outcome, found, spent, refused, root_of, words_outcome}
use Rattle.spec_laws.specs.QuasiPeriod.{Quasi}
use Rattle.spec_laws.specs.Admitted.{Admitted}
use Rattle.spec_sentences.specs.Sentences.{Same}
use Rattle.spec_demands.specs.LeastDegree.{Solves}

-- p and s are those of u, but s may have the other sign
pub record Itself (f : FieldName) (u : UnitPair ℕ) (p s : List ℕ) : Type 0 where
  pub p_is : Same f p u.p
  pub s_is : Same f s u.s ⊎ Same f s (scale (ops f) ((ops f).sub 0 1) u.s)

-- "From now on the unit's p is monic, s is divided by the same constant": u is the unit, and lam stands for λ; s has
-- the degree R − (g + 1)
pub record MonicFound (f : FieldName) (g : ℕ) (D d : List ℕ) (R m lam : ℕ) (u : UnitPair ℕ) : Type 0 where
  pub p_monic : get_or u.p R 0 ≡ 1
  pub s_degree : deg (ops f) u.s + suc g ≡ R
  pub s_monic : get_or u.s (deg (ops f) u.s) 0 ≡ 1
  pub p_divided : scale (ops f) lam u.p ≡ p_before (ops f) D d m
  pub s_divided : scale (ops f) lam u.s ≡ s_before (ops f) D d m
  pub monic_only : (p s : List ℕ) → Solves f D p s → deg (ops f) p ≡ R → reading f (get_or p R 0) ≡ 1 → Itself f u p s

-- what an outcome says of the unit, for D with its root d
abbrev pub MonicIn : FieldName → ℕ → List ℕ → List ℕ → Outcome → Type 0
MonicIn f g D d (found R m c) = MonicFound f g D d R m (lead (ops f) (p_before (ops f) D d m)) (unit_of (ops f) D d m)
MonicIn f g D d (spent k e) = Unit
MonicIn f g D d (refused j) = Unit

abbrev pub T3Monic : Type 0
T3Monic = (w : List ℕ) → MonicIn (ticket_of w).field (genus (ticket_of w).n) (ticket_of w).D (root_of (ticket_of w)) (words_outcome w)

-- ---- the proof, for a D that is admitted
module _ {f : FieldName} {g : ℕ} {D : List ℕ} (h : Admitted f g D) where
  abbrev d : List ℕ
  d = root (ops f) D (suc g)

  -- ---- the unit of index i + 1
  module _ (b i : ℕ) (first : Quasi (ops f) D d b (suc i)) where
    abbrev u : UnitPair ℕ
    u = unit_of (ops f) D d (suc i)

    -- λ, and 1/λ
    abbrev lam : ℕ
    lam = lead (ops f) (p_before (ops f) D d (suc i))
