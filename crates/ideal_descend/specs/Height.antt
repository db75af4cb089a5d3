-- How many places the difference of two arrays has: they are equal from there on, and differ at the place
-- before.
use Rattle.std.specs.Prelude.{ℕ, ◌-◌, ◌≤◌, ◌<◌, ◌≡◌, List, get_or}

pub record Height (twice rest : List ℕ) (k : ℕ) : Type 0 where
  pub short : k ≤ 129
  pub past : (i : ℕ) → k ≤ i → get_or twice i 0 ≡ get_or rest i 0
  pub last : 0 < k → get_or twice (k - 1) 0 ≡ get_or rest (k - 1) 0 → ⊥
