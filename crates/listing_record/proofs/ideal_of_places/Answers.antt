-- Q made monic keeps its degree, and what is held fits into words.
use Rattle.base_polynomial.specs.Over.{result_monic}
use Rattle.listing_record.specs.Remainder.{monic_degree, remainder_held, value_fits}
use Rattle.listing_record.proofs.ideal_of_places.Goals as goal

pub returns : goal.returns
returns c =
    let f = c.args.f.is_field in
    let h = c.requires.current.0 in
    record {
      is = record { q = c.ideal_of.ensures.q; p = c.ideal_of.ensures.p; degree = monic_degree f.0 h };
      fits = (value_fits f.2 (result_monic h c.ideal_of.ensures.q).held, value_fits f.2 (remainder_held f.0 h c.requires.current.1 _ c.ideal_of.ensures.p));
    }
