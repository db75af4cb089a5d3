-- What a contract says of a walk's start: its field, D, the genus, the root of D, and how many coefficients it may have.
use Rattle.std.specs.Prelude.{ℕ, suc, List}
use Rattle.spec_arithmetic.specs.Field.{FieldName, Ops}
use Rattle.base_surd.specs.Surd as surds
use Rattle.walk_state.specs.declared.Walk.{Walk}
use Rattle.walk_state.specs.State.{root_d}

abbrev pub name : Walk → FieldName
name w = surds.name w.root.surd

abbrev pub ops : Walk → Ops ℕ
ops w = surds.ops w.root.surd

abbrev pub g : Walk → ℕ
g w = surds.g w.root.surd

abbrev pub D : Walk → List ℕ
D w = surds.D w.root.surd

-- the root of D
abbrev pub root : Walk → List ℕ
root w = root_d (name w) (g w) (D w)

-- how many coefficients it, twice it and each remainder may have
abbrev pub top : Walk → ℕ
top w = suc (suc (g w))
