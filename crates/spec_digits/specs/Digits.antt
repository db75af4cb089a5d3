-- Decimal digits read back: the number that they say. A line of numbers fixes every one of them, since a space and the end of the line are no digits.
use Rattle.std.specs.Prelude.{ℕ, ◌+◌, ◌*◌, ◌-◌, ◌≤◌, ◌≡◌, List, [], ◌∷◌, ◌++◌}
use Rattle.spec_definitions.specs.Text.{decimal, spaced}

-- the number that digits say, read from left to right after others that say n
unfoldable pub read_after : ℕ → List ℕ → ℕ
read_after n [] = n
read_after n (x ∷ l) = read_after (10 * n + (x - 48)) l

-- the number that digits say
unfoldable pub read_digits : List ℕ → ℕ
read_digits l = read_after 0 l

-- every character is one of "0" to "9"
abbrev pub AllDigits : List ℕ → Type 0
AllDigits [] = Unit
AllDigits (x ∷ l) = (48 ≤ x) × (x ≤ 57) × AllDigits l

-- a number in decimal is written in digits
abbrev pub DecimalDigits : Type 0
DecimalDigits = (n : ℕ) → AllDigits (decimal n)

-- the digits of n, read back, say n
abbrev pub DecimalRead : Type 0
DecimalRead = (n : ℕ) → read_digits (decimal n) ≡ n

-- numbers, each after a space, up to the end of a line are fixed by the text, and so is what stands after the line
abbrev pub SpacedFixes : Type 0
SpacedFixes = (a b r t : List ℕ) → spaced a ++ (10 ∷ r) ≡ spaced b ++ (10 ∷ t) → (a ≡ b) × (r ≡ t)
