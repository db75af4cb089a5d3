-- Differences of numbers up to 2^41 as signed numbers of 64 bits: they fit, and the machine's difference is
-- theirs.
use Rattle.std.specs.Prelude.{ℕ, zero, suc, ◌-◌, ◌≤◌, ◌≡◌, Bool, true, false, cond, ltb, ℤ, pos, negsuc, ◌-ℤ◌}
use Rattle.std.proofs.Common.{arith, sym, ap₂, ◌∙◌, subst₂, SFits, to_z, of_z}
use Rattle.std.specs.Int.Signed.{mag}
use Rattle.std.specs.Int.{w64}
use Rattle.std.proofs.lemmas.Int.{to_z-of_z}
pub use Rattle.spec_definitions.specs.Products.{farthest}

-- 2^41, the largest sum of two distances that a giant step takes
abbrev pub two_distances : ℕ
two_distances = 2199023255552

mag_sub : (a b k : ℕ) → a ≤ k → b ≤ k → mag (pos a -ℤ pos b) ≤ k
mag_sub a zero k h l = omega arith
mag_sub a (suc b) k h l = go (ltb a (suc b))
  where
    go : (t : Bool) → mag (cond t (negsuc (suc b - suc a)) (pos (a - suc b))) ≤ k
    go true = omega arith
    go false = omega arith

fits : (z : ℤ) → mag z ≤ two_distances → SFits w64 z
fits z h = record { sfits = omega arith }

signed : (a : ℕ) → a ≤ two_distances → to_z w64 a ≡ pos a
signed a h = to_z-of_z w64 (pos a) (fits (pos a) h)

module _ (a b : ℕ) (h : a ≤ two_distances) (l : b ≤ two_distances) where
  pub difference_fits : SFits w64 (to_z w64 a -ℤ to_z w64 b)
  difference_fits = subst₂ (λ (u v : ℤ). SFits w64 (u -ℤ v)) (sym (signed a h)) (sym (signed b l)) (fits (pos a -ℤ pos b) (mag_sub a b two_distances h l))

  pub difference_is : to_z w64 (of_z w64 (to_z w64 a -ℤ to_z w64 b)) ≡ pos a -ℤ pos b
  difference_is = to_z-of_z w64 _ difference_fits ∙ ap₂ ◌-ℤ◌ (signed a h) (signed b l)
