-- The places of the difference, with its size.
use Rattle.spec_bridge.specs.Residues.{pos}
use Rattle.base_ideal.specs.Difference.{difference_past, difference_is}
use Rattle.base_ideal.proofs.difference.Goals as goal

pub top-z-requires : goal.top-z-requires
top-z-requires c =
    record {
      from_bound = c.requires.n_bound;
      by_index = difference_past (pos _ c.args.f.is_field.0) c.requires.within.0 c.requires.within.1 c.sub_places.ensures;
    }

pub returns : goal.returns
returns c =
    difference_is (pos _ c.args.f.is_field.0) c.requires.within.0 c.requires.within.1 c.sub_places.ensures c.top-z.ensures
