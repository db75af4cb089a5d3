-- What the outcome `found` of a ticket says of its walk.
use Rattle.std.specs.Prelude.{ℕ, suc, ◌+◌, ◌<◌, ◌≡◌}
use Rattle.std.proofs.Common.{arith, sym, ap, ◌∙◌}
use Rattle.std.proofs.Math.Option.{Option, none, some}
use Rattle.spec_arithmetic.specs.Words.{values}
use Rattle.spec_definitions.specs.Walk.{quasi_period, degree_before, constant_of}
use Rattle.spec_definitions.specs.Answers.{Outcome, found, spent, outcome_of, root_of}
use Rattle.spec_laws.specs.Admitted.{surd_of}
use Rattle.spec_laws.specs.QuasiPeriod.{Quasi, quasi_some}
use Rattle.base_surd.specs.declared.Surd.{Surd}
use Rattle.base_surd.specs.Surd.{name, ops, g, D, ticket_with}
use Rattle.walk_state.specs.State.{root_d}

-- the outcome x finds no walk
abbrev pub NotFound : Outcome → Type 0
NotFound x = (R m c : ℕ) → x ≡ found R m c → ⊥

-- the walk of √D is found with R, m, c within the budget b
pub record Found (s : Surd) (b R m c : ℕ) : Type 0 where
  pub even : suc (g s) + suc (g s) ≡ s.n
  pub budget : b < values
  pub outcome : outcome_of (ticket_with s b) ≡ found R m c

module _ (s : Surd) {b R m c : ℕ} (h : Found s b R m c) where
  abbrev Says : Option ℕ → Type 0
  Says x =
      ◌≡◌ {A = Outcome} (elim x [
        | none ↦ spent b (degree_before (ops s) (D s) (root_d (name s) (g s) (D s)) b)
        | some k ↦ found (degree_before (ops s) (D s) (root_d (name s) (g s) (D s)) k) k (constant_of (ops s) (D s) (root_d (name s) (g s) (D s)) k)
      ]) (found R m c)

  says : Says (quasi_period (ops s) (D s) (root_d (name s) (g s) (D s)) b)
  unfolding outcome_of root_of
  says = h.outcome

  read : (x : Option ℕ) → Says x → (x ≡ some m) × (R ≡ degree_before (ops s) (D s) (root_d (name s) (g s) (D s)) m)
  read none e = absurd (let z : ◌≡◌ {A = ℕ} 0 1 = cc in omega arith)
  read (some k) e =
      let i : k ≡ m = cc in
      let j : degree_before (ops s) (D s) (root_d (name s) (g s) (D s)) k ≡ R = cc in
      (ap some i, sym j ∙ ap (degree_before (ops s) (D s) (root_d (name s) (g s) (D s))) i)

  -- m is the quasi-period, within the budget
  pub found_quasi : Quasi (ops s) (D s) (root_d (name s) (g s) (D s)) b m
  found_quasi = quasi_some (surd_of s.admitted) b m (read (quasi_period (ops s) (D s) (root_d (name s) (g s) (D s)) b) says).0

  -- R is the degree of p at the index m − 1
  pub found_degree : R ≡ degree_before (ops s) (D s) (root_d (name s) (g s) (D s)) m
  found_degree = (read (quasi_period (ops s) (D s) (root_d (name s) (g s) (D s)) b) says).1

  pub found_index : m < values
  found_index = let w = found_quasi.within in let k = h.budget in omega arith
