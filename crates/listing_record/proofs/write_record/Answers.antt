use Rattle.listing_record.specs.Entry.{record_written}
use Rattle.listing_record.proofs.write_record.Goals as goal

pub returns : goal.returns
returns c =
    record_written _ _ _ _ _ _ _ _ c.ideal_of_places.new.z _ _ c.requires.le_n.1 c.ideal_of_places.ensures.is (c.put_record.ensures _)
