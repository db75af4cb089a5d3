-- The definition's case of a zero polynomial, with the inverse of the leading coefficient of a.
use Rattle.base_polynomial.specs.Monic.{lead_inverse_less}
use Rattle.base_field.specs.Named.{name}
use Rattle.base_euclid.proofs.bezout.bezout_zero.Goals as goal

pub constant-requires : goal.constant-requires
constant-requires c = lead_inverse_less _ c.requires c.lead_inverse-w.ensures

pub returns-clause-second : goal.returns-clause-second
returns-clause-second c = c.zero.ensures (name c.args.f)
