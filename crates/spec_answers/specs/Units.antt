-- T2, the part on the unit's lists, place by place: where the call `unit` answers found, places 0 to R of the
-- first list hold the coefficients of p_{m−1} over its leading one, so that place R holds 1, those of the second the
-- coefficients of s_{m−1} over the same, those of the other two are 0, and later places keep what they had.
use Rattle.std.specs.Prelude.{ℕ, suc, ◌≤◌, ◌≡◌}
use mathlib.Core.List.{List, []}
use Rattle.std.proofs.Math.ListN.{get_or}
use Rattle.spec_arithmetic.specs.Field.{FieldName, ops}
use Rattle.spec_arithmetic.specs.Polynomials.{size, deg, lead}
use Rattle.spec_definitions.specs.Ticket.{Ticket, ticket_of}
use Rattle.spec_definitions.specs.Walk.{p_before, s_before}
use Rattle.spec_definitions.specs.Answers.{found, said, ops_of, root_of}
use Rattle.spec_definitions.specs.Units.{Lists, unit_answer}
use Rattle.spec_fields.specs.Named.{Ok}
use Rattle.spec_refusals.specs.LentLists.{KeepsFrom}

-- "in places 0 to R, constant term first, zeros above the degree .. Later places keep what they had.": `new`
-- holds the polynomial f in places 0 to R and is `old` from R+1 on
pub record Holds (R : ℕ) (f old new : List ℕ) : Type 0 where
  pub places : (i : ℕ) → i ≤ R → get_or new i 0 ≡ get_or f i 0
  pub later : KeepsFrom (suc R) old new

-- the same of a polynomial l over k: k times the coefficient in each place is that of l, and each is a coefficient
pub record HoldsOver (f : FieldName) (R k : ℕ) (l old new : List ℕ) : Type 0 where
  pub places : (i : ℕ) → i ≤ R → (ops f).mul k (get_or new i 0) ≡ get_or l i 0
  pub below : (i : ℕ) → i ≤ R → Ok f (get_or new i 0)
  pub later : KeepsFrom (suc R) old new

-- "R = deg p_{m−1} the regulator, (p_{m−1}, s_{m−1}) the unit"; R-3: "the unit's p is monic, s is divided by the
-- same constant"; "The first receives p, the second s .. In the other two, places 0 to R end as zero.": [] is the
-- zero polynomial, and nothing of p and s is left out
pub record UnitWritten (t : Ticket) (R m : ℕ) (old new : Lists) : Type 0 where
  pub regulator : R ≡ deg (ops_of t) (p_before (ops_of t) t.D (root_of t) m)
  pub s_whole : size (ops_of t) (s_before (ops_of t) t.D (root_of t) m) ≤ suc R
  pub monic : get_or new.first R 0 ≡ 1
  pub p_written : HoldsOver t.field R (lead (ops_of t) (p_before (ops_of t) t.D (root_of t) m)) (p_before (ops_of t) t.D (root_of t) m) old.first new.first
  pub s_written : HoldsOver t.field R (lead (ops_of t) (p_before (ops_of t) t.D (root_of t) m)) (s_before (ops_of t) t.D (root_of t) m) old.second new.second
  pub third_zero : Holds R [] old.third new.third
  pub fourth_zero : Holds R [] old.fourth new.fourth

abbrev pub T2UnitLists : Type 0
T2UnitLists = (w : List ℕ) (l : Lists) (R m c : ℕ) → (unit_answer w l).says ≡ said (found R m c) → UnitWritten (ticket_of w) R m l (unit_answer w l).lists
