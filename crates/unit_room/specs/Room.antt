-- Four lists with room for so many places each, and what the test of their lengths says.
use Rattle.std.specs.Prelude.{ℕ, suc, ◌≤◌, ◌≡◌, Bool, true, false, ◌&&◌, List, leb, length}
use Rattle.std.proofs.Common.{◌∙◌}
use Rattle.std.proofs.Math.Path.{sym}
use Rattle.spec_definitions.specs.Units.{Lists, long_enough}

-- each list has k places
pub record Room (k : ℕ) (p s x y : List ℕ) : Type 0 where
  pub p_room : k ≤ length p
  pub s_room : k ≤ length s
  pub x_room : k ≤ length x
  pub y_room : k ≤ length y

abbrev pub lists : List ℕ → List ℕ → List ℕ → List ℕ → Lists
lists p s x y = record { first = p; second = s; third = x; fourth = y }

-- the four lists of these lengths are long enough, or not
module _ (r : ℕ) (p s x y : List ℕ) (b : Bool) (is : b ≡ (leb (suc r) (length p) && leb (suc r) (length s) && leb (suc r) (length x) && leb (suc r) (length y))) where
  pub room_long : b ≡ true → long_enough (suc r) (lists p s x y) ≡ true
  unfolding long_enough
  room_long e = sym is ∙ e

  pub room_short : b ≡ false → long_enough (suc r) (lists p s x y) ≡ false
  unfolding long_enough
  room_short e = sym is ∙ e
