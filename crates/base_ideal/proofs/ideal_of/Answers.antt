-- The difference is held, of at most as many places as d and the remainder have.
use Rattle.std.proofs.Common.{ℕ, ap, List}
use Rattle.spec_arithmetic.specs.Field.{ops}
use Rattle.spec_arithmetic.specs.Polynomials.{rem, monic}
use Rattle.spec_bridge.specs.Residues.{pos}
use Rattle.base_field.specs.Named.{name}
use Rattle.base_polynomial.specs.Over.{poly}
use Rattle.base_ideal.specs.Difference.{difference_result, is_path}
use Rattle.base_ideal.proofs.ideal_of.Goals as goal

pub normal-requires : goal.normal-requires
normal-requires c =
    record {
      some = c.requires.sizes.0;
      held = (c.requires.held.0, (difference_result (pos _ c.args.f.is_field.0) c.requires.held.1 c.requires.held.2 c.requires.sizes.1 c.difference.ensures).held);
    }

pub returns : goal.returns
returns c =
    let f = name c.args.f in
    let d = difference_result (pos _ c.args.f.is_field.0) c.requires.held.1 c.requires.held.2 c.requires.sizes.1 c.difference.ensures in
    record {
      q = c.normal.ensures.q;
      p = is_path (ap (λ (v : List ℕ). rem (ops f) v (monic (ops f) (poly c.args.current.now))) d.is) c.normal.ensures.p;
    }
