-- Where steps from an ideal x stand at an index j, in arrays of 129 places: Q_j, the Q before it and the remainder of
-- the step before. A step of the walk takes one to the next.
use Prim.Native.Nat.{ℕ, suc, ◌+◌, ◌≤◌}
use Rattle.std.specs.Prelude.{◌≡◌, List, get_or}
use Rattle.std.proofs.Math.ListN.{length}
use Rattle.spec_arithmetic.specs.Field.{FieldName, ops}
use Rattle.spec_arithmetic.specs.Polynomials.{trim, pad}
use Rattle.spec_definitions.specs.Walk.{Ideal, steps}
use Rattle.spec_fields.specs.Named.{Ok}
use Rattle.spec_laws.specs.Admitted.{Admitted}
use Rattle.spec_laws.specs.Pairs.{IsIdeal}
use Rattle.walk_state.specs.State.{root_d}
use Rattle.ideal_operand.specs.Operand.{K, M}
use Rattle.ideal_descend.specs.Recurrence.{before, left}

-- the arrays and the size of Q are those of index j of the steps from x
pub record Stands (f : FieldName) (g : ℕ) (D : List ℕ) (x : Ideal ℕ) (j : ℕ) (before_array current rest : List ℕ) (size : ℕ) : Type 0 where
  pub before_is : before_array ≡ pad (ops f) 129 (before (ops f) D (root_d f g D) x j)
  pub q_is : current ≡ pad (ops f) 129 (steps (ops f) D (root_d f g D) x j).q
  pub left_is : rest ≡ pad (ops f) 129 (left (ops f) D (root_d f g D) x j)
  pub size_is : size ≡ length (steps (ops f) D (root_d f g D) x j).q

-- the ideal that the steps start from: its lists have no zero at the end, and their coefficients are
-- admissible
pub record Begun {f : FieldName} {g : ℕ} {D : List ℕ} (h : Admitted f g D) (x : Ideal ℕ) : Type 0 where
  pub ideal : IsIdeal (K h) (M h) D x
  pub q_trim : trim (ops f) x.q ≡ x.q
  pub p_trim : trim (ops f) x.p ≡ x.p
  pub q_oks : (i : ℕ) → Ok f (get_or x.q i 0)
  pub p_oks : (i : ℕ) → Ok f (get_or x.p i 0)
  pub q_most : length x.q ≤ suc (g + g)
  pub p_most : length x.p ≤ g + g
