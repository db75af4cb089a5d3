-- What a step asks for and what it makes of the arrays and the counts of a walk; how the walk begins. First by any
-- field f, table of inverses, root d, twice it and `top`, then by those of a walk.
use Rattle.std.specs.Prelude.{ℕ, ◌+◌, ◌-◌, ◌<◌, ◌≤◌, ◌≡◌, List, set}
use Rattle.std.proofs.Common.{arith}
use Rattle.spec_arithmetic.specs.Field.{FieldName}
use Rattle.spec_definitions.specs.Ticket.{budgets, degrees}
use Rattle.base_places.specs.Places.{zeros}
use Rattle.base_polynomial.specs.declared.Poly.{Poly}
use Rattle.walk_step.specs.Step.{Inverses, Ready, Stepped}
use Rattle.walk_state.specs.declared.Walk.{Walk}
use Rattle.walk_state.specs.Walk.{name, top}
use Rattle.walk_stride.specs.declared.Progress.{Progress}

-- the arrays and counts from which a step can be taken; a degree is at most 2³³ at an index below 2²⁸
pub record GoingBy (f : FieldName) (top : ℕ) (inverses twice : List ℕ) (before current : Poly) (rest : List ℕ) (at : Progress) : Type 0 where
  pub some : 0 < current.size
  pub most : current.size ≤ top
  pub top_fits : top ≤ 127
  pub table : Inverses f inverses
  pub ready : Ready f top current.size twice before.c current.c rest
  pub few : at.index.0 < budgets
  pub degree_fits : at.degree.0 ≤ degrees

-- D, 1 and d in their places
pub record BegunWith (radicand : Poly) (d : List ℕ) (before current : Poly) (rest : List ℕ) (at : Progress) : Type 0 where
  pub before_is : before ≡ radicand
  pub current_is : current.c ≡ set zeros 0 1
  pub size_is : current.size ≡ 1
  pub rest_is : rest ≡ d
  pub index_is : at.index.0 ≡ 0
  pub degree_is : at.degree.0 ≡ 0

-- the next remainder and the next Q; the degree rises by top less the size of Q
pub record TakenBy (f : FieldName) (top : ℕ) (twice : List ℕ) (before current : Poly) (rest remains : List ℕ) (after : Poly) (at to : Progress) : Type 0 where
  pub stepped : Stepped f twice before.c current.c rest remains after.c after.size
  pub index_is : to.index.0 ≡ at.index.0 + 1
  pub degree_is : to.degree.0 ≡ at.degree.0 + (top - current.size)

-- the same in place: the Q before is now Q
pub record TurnedBy (f : FieldName) (top : ℕ) (twice : List ℕ) (before current : Poly) (rest : List ℕ) (before' current' : Poly) (rest' : List ℕ) (at to : Progress) : Type 0 where
  pub moved : before' ≡ current
  pub taken : TakenBy f top twice before current rest rest' current' at to

-- ---- of a walk, where top is g + 2
pub record Going (w : Walk) (before current : Poly) (rest : List ℕ) (at : Progress) : Type 0 where
  pub some : 0 < current.size
  pub most : current.size ≤ top w
  pub ready : Ready (name w) (top w) current.size w.root.twice before.c current.c rest
  pub few : at.index.0 < budgets
  pub degree_fits : at.degree.0 ≤ degrees

abbrev pub Begun : Walk → Poly → Poly → List ℕ → Progress → Type 0
Begun w before current rest at = BegunWith w.root.surd.radicand w.root.d before current rest at

abbrev pub Taken : Walk → Poly → Poly → List ℕ → List ℕ → Poly → Progress → Progress → Type 0
Taken w before current rest remains after at to = TakenBy (name w) (top w) w.root.twice before current rest remains after at to

abbrev pub Turned : Walk → Poly → Poly → List ℕ → Poly → Poly → List ℕ → Progress → Progress → Type 0
Turned w before current rest before' current' rest' at to = TurnedBy (name w) (top w) w.root.twice before current rest before' current' rest' at to

-- a walk has the table, and g + 2 ≤ 33
pub going_by : (w : Walk) {before current : Poly} {rest : List ℕ} {at : Progress} → Going w before current rest at → GoingBy (name w) (top w) w.inverses.now w.root.twice before current rest at
going_by w g =
    record {
      some = g.some;
      most = g.most;
      top_fits = (let l = w.root.surd.admitted.genus_most in omega arith);
      table = w.inverses_are;
      ready = g.ready;
      few = g.few;
      degree_fits = g.degree_fits;
    }
