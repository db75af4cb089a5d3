-- T3: what is found is least. For every p and s with s ≠ 0 and p² − D·s² a nonzero constant: where a ticket's
-- outcome is `found`, the degree of p is at least R, the unit is such a pair of degree R, and one of degree R
-- is a constant multiple of it, up to the sign of s; where it is `spent`, the degree of p is above the degree
-- reached. Polynomials are lists of any length, of any numbers, read in the field. The proof is the theorem
-- on the least degree in the continued fraction of √D; R-3: "A least degree stays least after scaling".
use Prim.Native.Nat.{ℕ, suc, ◌≤◌, ◌<◌}
use Rattle.std.specs.Prelude.{◌≡◌, ◌≢◌, ◌⊎◌, List, [], ◌∷◌}
use Rattle.std.proofs.Math.Option.{some}
use Rattle.spec_arithmetic.specs.Field.{FieldName, ops}
use Rattle.spec_arithmetic.specs.Polynomials.{size, deg, sub, mul, scale, root}
use Rattle.spec_definitions.specs.Ticket.{ticket_of}
use Rattle.spec_definitions.specs.Walk.{Unit as UnitPair, unit_of}
use Rattle.spec_definitions.specs.Answers.{Outcome, found, spent, refused, root_of, words_outcome}
use Rattle.spec_fields.specs.Named.{Ok, Arithmetic, arithmetic}
use Rattle.spec_laws.specs.Monic.{unit_norm}
use Rattle.spec_laws.specs.Admitted.{Admitted, is_field}
use Rattle.spec_sentences.specs.Sentences.{Same}

-- p² − D·s²
abbrev pub norm : FieldName → List ℕ → List ℕ → List ℕ → List ℕ
norm f D p s = sub (ops f) (mul (ops f) p p) (mul (ops f) D (mul (ops f) s s))

-- s is not 0, and p² − D·s² is a constant other than 0
pub record Solves (f : FieldName) (D p s : List ℕ) : Type 0 where
  pub some : size (ops f) s ≢ 0
  pub constant : size (ops f) (norm f D p s) ≡ 1

-- p and s are k times the unit's, for a coefficient k that is not 0, but s may have the other sign
pub record Multiple (f : FieldName) (u : UnitPair ℕ) (p s : List ℕ) : Type 0 where
  pub k : ℕ
  pub positive : 0 < k
  pub below : Ok f k
  pub p_is : Same f p (scale (ops f) k u.p)
  pub s_is : Same f s (scale (ops f) k u.s) ⊎ Same f s (scale (ops f) ((ops f).sub 0 k) u.s)

pub record LeastFound (f : FieldName) (D : List ℕ) (u : UnitPair ℕ) (R c : ℕ) : Type 0 where
  pub lower : (p s : List ℕ) → Solves f D p s → R ≤ deg (ops f) p
  pub unit_solves : Solves f D u.p u.s
  pub unit_degree : deg (ops f) u.p ≡ R
  pub unit_norm : norm f D u.p u.s ≡ c ∷ []
  pub only : (p s : List ℕ) → Solves f D p s → deg (ops f) p ≡ R → Multiple f u p s

-- what an outcome says of every solution, for D with its root d
abbrev pub LeastIn : FieldName → List ℕ → List ℕ → Outcome → Type 0
LeastIn f D d (found R m c) = LeastFound f D (unit_of (ops f) D d m) R c
LeastIn f D d (spent k e) = (p s : List ℕ) → Solves f D p s → e < deg (ops f) p
LeastIn f D d (refused j) = Unit

abbrev pub Least : List ℕ → Outcome → Type 0
Least w x = LeastIn (ticket_of w).field (ticket_of w).D (root_of (ticket_of w)) x

abbrev pub T3 : Type 0
T3 = (w : List ℕ) → Least w (words_outcome w)

-- ---- the proof, for a D that is admitted
module _ {f : FieldName} {g : ℕ} {D : List ℕ} (h : Admitted f g D) where
  abbrev A : Arithmetic f
  A = arithmetic f (is_field h)

  abbrev d : List ℕ
  d = root (ops f) D (suc g)

  module _ (x : A.Elements) where
    abbrev k : ℕ
    k = A.onto.back x
