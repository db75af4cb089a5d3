-- The places of a polynomial from one place on, zeros before it.
use Rattle.std.specs.Prelude.{ℕ, ◌<◌, ◌≤◌, ◌≡◌, Bool, leb}
use Rattle.std.proofs.Common.{arith, sym, ◌∙◌, ⊎_elim, le-leb}
use Rattle.std.proofs.Math.Path.{ap}
use Rattle.std.proofs.Math.Bool.{true, false}
use Rattle.std.proofs.lemmas.Bool.{lt-leb}
use Rattle.math_ring.specs.Order.{le_or_lt}
use Rattle.base_places.specs.Places.{Filled, zeros, length_zeros, at_zeros}

unfoldable pub upper : ℕ → (ℕ → ℕ) → ℕ → ℕ
upper from g i = elim (leb from i) [ true ↦ g i | false ↦ 0 ]

module _ (from : ℕ) (g : ℕ → ℕ) where
  pub upper_at : (i : ℕ) → from ≤ i → upper from g i ≡ g i
  unfolding upper
  upper_at i h = ap (λ (b : Bool). elim b [ true ↦ g i | false ↦ 0 ]) (le-leb from i h)

  pub upper_below : (i : ℕ) → i < from → upper from g i ≡ 0
  unfolding upper
  upper_below i h = ap (λ (b : Bool). elim b [ true ↦ g i | false ↦ 0 ]) (lt-leb from i h)

  -- where g is 0, and where it is small
  pub upper_zero : (i : ℕ) → g i ≡ 0 → upper from g i ≡ 0
  upper_zero i e = ⊎_elim (λ h. upper_at i h ∙ e) (λ h. upper_below i h) (le_or_lt from i)

  pub upper_less : (q i : ℕ) → 0 < q → g i < q → upper from g i < q
  upper_less q i pos l = ⊎_elim (λ h. let e = upper_at i h in omega arith) (λ h. let e = upper_below i h in omega arith) (le_or_lt from i)

  -- where the filling starts
  pub filled_below : Filled zeros (upper from g) from
  filled_below = record { long = length_zeros; done = λ k h. at_zeros k ∙ sym (upper_below k h); rest = λ k h. at_zeros k }
