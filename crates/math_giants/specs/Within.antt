-- Giant steps stay in one period: of two ideals with indices below the quasi-period m, the giant step is the
-- ideal of one index below m and of no other, and the sum of the two distances and f is its distance, or its
-- distance and the regulator. The statement is `Within`, its proof `within`.
use Rattle.std.specs.Prelude.{ℕ, ◌+◌ as ◌+ₙ◌, ◌<◌, ◌≡◌, ◌⊎◌}
use Rattle.math_algebra.specs.Field.{Field}
use Rattle.math_algebra.specs.Polynomial.{Px}
use Rattle.math_surd.specs.Root.{Root}
use Rattle.math_surd.specs.Walk.{Walk}
use Rattle.math_surd.specs.Distance.{distance}
use Rattle.math_surd.specs.Ideal.{SameIdeal}
use Rattle.math_giants.specs.GiantStep.{GiantStep, giant_Q, giant_P, drop}

module _ {A : Type 0} (K : Field A) {g : ℕ} {D : Px K} {o : Root K g D} (w : Walk K o) (m : ℕ) where
  -- the giant step of two ideals with distances δ₁ and δ₂ is the ideal of index `at`, below m
  pub record WithinPeriod {Q₁ P₁ Q₂ P₂ : Px K} (G : GiantStep K o Q₁ P₁ Q₂ P₂) (δ₁ δ₂ : ℕ) : Type 0 where
    pub at : ℕ
    pub below : at < m
    pub same : SameIdeal K (giant_Q K G) (giant_P K G) (w.Q at) (w.P at)
    pub only : (l : ℕ) → l < m → SameIdeal K (giant_Q K G) (giant_P K G) (w.Q l) (w.P l) → l ≡ at
    pub distance_is : (distance K w at +ₙ drop K G ≡ δ₁ +ₙ δ₂) ⊎ (distance K w at +ₙ distance K w m +ₙ drop K G ≡ δ₁ +ₙ δ₂)

  abbrev pub Within : Px K → Px K → Px K → Px K → Type 0
  Within Q₁ P₁ Q₂ P₂ = (G : GiantStep K o Q₁ P₁ Q₂ P₂) (i j : ℕ) → i < m → j < m → SameIdeal K Q₁ P₁ (w.Q i) (w.P i) → SameIdeal K Q₂ P₂ (w.Q j) (w.P j) → WithinPeriod G (distance K w i) (distance K w j)
