-- Numbers in decimal, by computation: one digit and more, on both sides of a power of ten, up to the largest
-- value of a word.
use Rattle.std.specs.Prelude.{◌≡◌, [], ◌∷◌, map}
use Rattle.spec_definitions.specs.Text.{ascii, decimal}

-- the highest digit first, and no zero before it
abbrev pub Decimals : Type 0
Decimals = map decimal (0 ∷ 9 ∷ 10 ∷ 99 ∷ 100 ∷ 4095 ∷ 268435455 ∷ []) ≡ map ascii ("0" ∷ "9" ∷ "10" ∷ "99" ∷ "100" ∷ "4095" ∷ "268435455" ∷ [])
