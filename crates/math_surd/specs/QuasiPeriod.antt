-- The quasi-period m: the first index from 1 on at which Q is constant. The regulator is the distance of m,
-- the degree of the convergent p of index m - 1.
use Rattle.std.specs.Prelude.{ℕ, ◌≤◌, ◌<◌, ◌≡◌}
use Rattle.math_algebra.specs.Field.{Field}
use Rattle.math_algebra.specs.Polynomial.{Px}
use Rattle.math_surd.specs.Root.{Root}
use Rattle.math_surd.specs.Walk.{Walk}

module _ {A : Type 0} (K : Field A) {g : ℕ} {D : Px K} {o : Root K g D} (w : Walk K o) where
  open w use {κ}

  -- no Q from the index 1 to the index b is constant
  abbrev pub NoneConstant : ℕ → Type 0
  NoneConstant b = (j : ℕ) → 0 < j → j ≤ b → κ j ≡ 0 → ⊥

  pub record QuasiPeriod (m : ℕ) : Type 0 where
    pub positive : 0 < m
    pub constant : κ m ≡ 0
    pub least : (j : ℕ) → 0 < j → j < m → κ j ≡ 0 → ⊥
