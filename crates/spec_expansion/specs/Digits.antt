-- A list of digits below q as a number, the lowest digit first: with at most n digits it is below q^n, and it
-- tells every digit.
use Prim.Native.Nat.{ℕ, ◌+◌, ◌*◌, ◌^◌, ◌≤◌, ◌<◌}
use Rattle.std.specs.Prelude.{◌≡◌, length, get_or}
use mathlib.Core.List.{List, [], ◌∷◌}

module _ (q : ℕ) where
  abbrev pub Digits : List ℕ → Type 0
  Digits l = (i : ℕ) → get_or l i 0 < q

  -- l_0 + l_1·q + l_2·q² + ..
  unfoldable pub number : List ℕ → ℕ
  number [] = 0
  number (x ∷ l) = x + q * number l

  abbrev pub NumberBelow : Type 0
  NumberBelow = (n : ℕ) (l : List ℕ) → Digits l → length l ≤ n → number l < q ^ n

  abbrev pub NumberTells : Type 0
  NumberTells = (l m : List ℕ) → Digits l → Digits m → number l ≡ number m → (i : ℕ) → get_or l i 0 ≡ get_or m i 0

-- x + q·a tells x and a, for an x below q
abbrev pub SumTells : Type 0
SumTells = (q x y a b : ℕ) → x < q → y < q → x + q * a ≡ y + q * b → (x ≡ y) × (a ≡ b)
