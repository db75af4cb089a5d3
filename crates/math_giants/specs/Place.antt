-- A pair (Q, P) with a distance δ, as the ideal of an index of the endless walk (`Placed`), and what keeps it
-- one: another pair of the same ideal; a single step, to the next index, with the distance raised by g + 1 -
-- deg Q; a giant step, to some index, with the sum of the two distances and f.
use Rattle.std.specs.Prelude.{ℕ, ◌+◌ as ◌+ₙ◌, ◌-◌ as ◌-ₙ◌, ◌≤◌, ◌≡◌}
use Rattle.math_algebra.specs.Field.{Field}
use Rattle.math_algebra.specs.Polynomial.{Px}
use Rattle.math_surd.specs.Root.{Root}
use Rattle.math_surd.specs.Walk.{Walk}
use Rattle.math_surd.specs.Distance.{distance}
use Rattle.math_surd.specs.Ideal.{SameIdeal}
use Rattle.math_giants.specs.GiantStep.{GiantStep, giant_Q, giant_P, drop}

module _ {A : Type 0} (K : Field A) {g : ℕ} {D : Px K} {o : Root K g D} (w : Walk K o) where
  -- (Q, P) is the ideal of index `at`, and δ is its distance
  pub record Placed (Q P : Px K) (δ at : ℕ) : Type 0 where
    pub same : SameIdeal K Q P (w.Q at) (w.P at)
    pub distance_is : distance K w at ≡ δ

  -- the giant step of two ideals with δ for the sum of their distances; f, minus the drop, takes nothing
  -- below 0 and is at least -2 g
  pub record GiantPlaced {Q₁ P₁ Q₂ P₂ : Px K} (G : GiantStep K o Q₁ P₁ Q₂ P₂) (δ : ℕ) : Type 0 where
    pub at : ℕ
    pub less : drop K G ≤ δ
    pub few : drop K G ≤ g +ₙ g
    pub placed : Placed (giant_Q K G) (giant_P K G) (δ -ₙ drop K G) at
