-- Fractions as they are written: a numerator over a denominator, multiplied part by part and not reduced. Two have the
-- same value where the products across are equal.
use Rattle.std.specs.Prelude.{ℕ, zero, suc, ◌*◌, ◌≡◌}

pub record Ratio : Type 0 where
  pub top : ℕ
  pub bottom : ℕ

infix 6 ◌over◌
abbrev pub ◌over◌ : ℕ → ℕ → Ratio
N over M = record { top = N; bottom = M }

infixl 5 ◌times◌
abbrev pub ◌times◌ : Ratio → Ratio → Ratio
x times y = (x.top * y.top) over (x.bottom * y.bottom)

unfoldable pub power : Ratio → ℕ → Ratio
power x zero = 1 over 1
power x (suc k) = power x k times x

-- x and y have the same value
abbrev pub SameValue : Ratio → Ratio → Type 0
SameValue x y = x.top * y.bottom ≡ y.top * x.bottom
