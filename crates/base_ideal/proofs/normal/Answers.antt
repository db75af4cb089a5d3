-- The monic polynomial is held, of the same size, and is the divisor.
use Rattle.std.proofs.Common.{◌<◌, arith, ap}
use Rattle.spec_arithmetic.specs.Field.{ops}
use Rattle.spec_arithmetic.specs.Polynomials.{rem}
use Rattle.spec_bridge.specs.Monic.{length_monic}
use Rattle.spec_bridge.specs.Residues.{model, inverts, pos}
use Rattle.base_field.specs.Named.{name}
use Rattle.base_polynomial.specs.Over.{poly, held_size, result_monic}
use Rattle.base_ideal.specs.Difference.{is_path}
use Rattle.base_ideal.proofs.normal.Goals as goal

pub remainder-requires : goal.remainder-requires
remainder-requires c =
    let p = c.args.f.is_field.0 in
    let l = length_monic (model _ (pos _ p)) (inverts _ (pos _ p) p) (poly c.args.a.now) in
    let h = held_size {a = c.args.a.now} c.requires.held.0 in
    let e = c.monic.ensures.size_is in
    (c.requires.held.1, (result_monic c.requires.held.0 c.monic.ensures).held, omega arith)

pub returns : goal.returns
returns c =
    record {
      q = c.monic.ensures;
      p = is_path (ap (rem (ops (name c.args.f)) (poly c.args.z.now.p)) (result_monic c.requires.held.0 c.monic.ensures).is) c.remainder.ensures;
    }
