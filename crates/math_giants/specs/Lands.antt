-- The theorem a reader opens: the giant step of two ideals of the endless walk is an ideal of the endless
-- walk, and its distance there is the sum of the two distances and f, exactly. The statement is `Lands`, its
-- proof `lands`. Carried by generators: the convergents are big ones, the product and the steps keep them
-- big, and a reduced ideal with a big generator is the ideal of the walk at the generator's degree.
use Rattle.std.specs.Prelude.{ℕ, ◌+◌ as ◌+ₙ◌, ◌≡◌}
use Rattle.math_algebra.specs.Field.{Field}
use Rattle.math_algebra.specs.Polynomial.{Px}
use Rattle.math_surd.specs.Root.{Root}
use Rattle.math_surd.specs.Walk.{Walk}
use Rattle.math_surd.specs.Distance.{distance}
use Rattle.math_surd.specs.Ideal.{SameIdeal}
use Rattle.math_giants.specs.GiantStep.{GiantStep, giant_Q, giant_P, drop}

module _ {A : Type 0} (K : Field A) {g : ℕ} {D : Px K} {o : Root K g D} (w : Walk K o) where
  abbrev P[x] : Type 0
  P[x] = Px K

  -- the giant step of two ideals with distances δ₁ and δ₂ is the ideal of index `at`, whose distance is δ₁ +
  -- δ₂ + f; f is minus the `drop`
  pub record Landed {Q₁ P₁ Q₂ P₂ : P[x]} (G : GiantStep K o Q₁ P₁ Q₂ P₂) (δ₁ δ₂ : ℕ) : Type 0 where
    pub at : ℕ
    pub same : SameIdeal K (giant_Q K G) (giant_P K G) (w.Q at) (w.P at)
    pub distance_is : distance K w at +ₙ drop K G ≡ δ₁ +ₙ δ₂

  -- for all indices i and j of the endless walk, and all pairs (Q₁, P₁) and (Q₂, P₂) that have their ideals
  abbrev pub Lands : P[x] → P[x] → P[x] → P[x] → Type 0
  Lands Q₁ P₁ Q₂ P₂ = (G : GiantStep K o Q₁ P₁ Q₂ P₂) (i j : ℕ) → SameIdeal K Q₁ P₁ (w.Q i) (w.P i) → SameIdeal K Q₂ P₂ (w.Q j) (w.P j) → Landed G (distance K w i) (distance K w j)
