-- The words of a ticket of document 01, place by place; the residues that the single job at q has for its
-- coefficients.
use Rattle.std.specs.Prelude.{ℕ, ◌+◌, List, map, take, drop}
use Rattle.spec_arithmetic.specs.Words.{value}
use Rattle.spec_several.specs.Several.{residue}

-- ---- the residues of the values of the n + 1 words after the first
abbrev pub residues_in : ℕ → ℕ → List ℕ → List ℕ
residues_in q n w = map (residue q) (map value (take (n + 1) (drop 1 w)))
