-- The proofs of specs/Decimals.
use Rattle.std.specs.Prelude.{refl}
use Rattle.spec_definitions.specs.Text.{ascii, decimal, decimal_in}
use Rattle.spec_printed.specs.Decimals.{Decimals}

-- ---- the proof
pub decimals : Decimals
unfolding ascii decimal decimal_in
decimals = refl
