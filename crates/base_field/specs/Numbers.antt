-- The numbers of 32 bits, and what q and its reciprocal are to one another.
use Rattle.std.specs.Prelude.{ℕ, ◌/◌, ◌<◌, ◌≡◌}
use Rattle.spec_bridge.specs.Prime.{Prime}

-- 2³² − 1
abbrev pub largest : ℕ
largest = 4294967295

-- 2³², how many there are
abbrev pub range : ℕ
range = 4294967296

-- q is an odd prime below 4,096, and the reciprocal belongs to it
abbrev pub AreField : ℕ → ℕ → Type 0
AreField q reciprocal = Prime q × (2 < q) × (q < 4096) × (reciprocal ≡ largest / q)
