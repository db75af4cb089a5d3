-- The reduction at its index j, in arrays of 129 places: Q_j, the Q before it and the remainder of the step
-- before, with the sum of the degrees of a so far. A step of the walk takes one to the next, and the size of
-- Q falls.
use Rattle.std.specs.Prelude.{ℕ, suc, ◌+◌, ◌-◌, ◌≤◌, ◌<◌, ◌≡◌, get_or}
use mathlib.Core.List.{List}
use Rattle.std.proofs.Math.ListN.{length}
use Rattle.spec_arithmetic.specs.Field.{FieldName}
use Rattle.spec_arithmetic.specs.Polynomials.{trim, deg, monic, rem}
use Rattle.spec_arithmetic.specs.Field as fields
use Rattle.spec_definitions.specs.Walk.{Ideal as Pair, steps}
use Rattle.spec_definitions.specs.Products.{turns_of, degree_sum}
use Rattle.base_polynomial.specs.declared.Poly.{Poly}
use Rattle.base_polynomial.specs.Whole.{Is}
use Rattle.base_surd.specs.declared.Surd.{Surd}
use Rattle.base_surd.specs.Surd as surds
use Rattle.walk_step.specs.Step.{Stepped}
use Rattle.walk_state.specs.State.{root_d}
use Rattle.base_ideal.specs.declared.Ideal.{Ideal}
use Rattle.walk_state.specs.declared.root.Root.{Root}
use Rattle.ideal_descend.specs.declared.Stage.{Stage}
use Rattle.walk_state.specs.Root.{name, g, D}
use Rattle.ideal_descend.specs.Height.{Height}
use Rattle.ideal_descend.specs.Stands.{Stands, Begun}

-- the arrays, the size of Q and the sum are those of an index; the degree of each Q before is above g; `top`
-- bounds the sizes of the next step
pub record At (f : FieldName) (g : ℕ) (D : List ℕ) (x : Pair ℕ) (before_array current rest : List ℕ) (size top sum : ℕ) : Type 0 where
  pub index : ℕ
  pub stands : Stands f g D x index before_array current rest size
  pub sum_is : sum ≡ degree_sum (fields.ops f) D (root_d f g D) g x index
  pub above : (i : ℕ) → i < index → suc g < length (trim (fields.ops f) (steps (fields.ops f) D (root_d f g D) x i).q)
  pub top_most : top ≤ 128
  pub top_least : size ≤ top
  pub rest_past : (i : ℕ) → top ≤ i → suc (suc g) ≤ i → get_or rest i 0 ≡ 0

-- the reduction of some ideal x stands at some index
pub record Going (r : Root) (before_poly current : Poly) (rest : List ℕ) (at : Stage) : Type 0 where
  pub x : Pair ℕ
  pub begun : Begun r.surd.admitted x
  pub stands : At (name r) (g r) (D r) x before_poly.c current.c rest current.size at.top at.sum

-- a step was made
pub record Taken (r : Root) (before_poly current : Poly) (rest remains : List ℕ) (after : Poly) (at to : Stage) : Type 0 where
  pub stepped : Stepped (name r) r.twice before_poly.c current.c rest remains after.c after.size
  pub height : Height r.twice remains to.top
  pub sum_is : to.sum ≡ at.sum + (to.top - after.size)

-- the first pair of the steps from x whose Q has degree at most g
abbrev pub first_low : Surd → Pair ℕ → Pair ℕ
first_low s x = steps (surds.ops s) (surds.D s) (root_d (surds.name s) (surds.g s) (surds.D s)) x (turns_of (surds.ops s) (surds.D s) (root_d (surds.name s) (surds.g s) (surds.D s)) (surds.g s) x)

-- z is the first pair whose Q has degree at most g, that Q made monic, P modulo it; the sum is that of the degrees
-- of a to its index
pub record Reduces (s : Surd) (x : Pair ℕ) (z : Ideal) (sum : ℕ) : Type 0 where
  pub q_is : Is s.field z.q (monic (surds.ops s) (first_low s x).q)
  pub p_is : Is s.field z.p (rem (surds.ops s) (first_low s x).p (monic (surds.ops s) (first_low s x).q))
  pub sum_is : sum ≡ degree_sum (surds.ops s) (surds.D s) (root_d (surds.name s) (surds.g s) (surds.D s)) (surds.g s) x (turns_of (surds.ops s) (surds.D s) (root_d (surds.name s) (surds.g s) (surds.D s)) (surds.g s) x)
  pub degree_is : deg (surds.ops s) (first_low s x).q ≡ z.q.size - 1
  pub some : 0 < z.q.size
  pub most : z.q.size + sum ≤ length x.q
