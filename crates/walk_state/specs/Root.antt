-- What a contract says of √D with its root: the field, the genus, D, the root of D, and how many coefficients it may
-- have.
use Rattle.std.specs.Prelude.{ℕ, suc, List}
use Rattle.spec_arithmetic.specs.Field.{FieldName, Ops}
use Rattle.base_field.specs.declared.Field.{Field}
use Rattle.base_surd.specs.Surd as surds
use Rattle.walk_state.specs.State.{root_d}
use Rattle.walk_state.specs.declared.root.Root.{Root}

abbrev pub field : Root → Field
field r = r.surd.field

abbrev pub name : Root → FieldName
name r = surds.name r.surd

abbrev pub ops : Root → Ops ℕ
ops r = surds.ops r.surd

abbrev pub g : Root → ℕ
g r = surds.g r.surd

abbrev pub D : Root → List ℕ
D r = surds.D r.surd

-- the root of D
abbrev pub root : Root → List ℕ
root r = root_d (name r) (g r) (D r)

-- how many coefficients it, twice it and each remainder may have
abbrev pub top : Root → ℕ
top r = suc (suc (g r))
