-- The outcome of a walk that is not found leaves the list as it is.
use Rattle.call_listing.specs.Listing.{kept, from_outcome}
use Rattle.call_listing.proofs.listing_of.Goals as goal

pub returns-in-Err : goal.returns-in-Err
returns-in-Err c =
    let e = c.in-Err.ensures in
    rw (← c.new-w.ensures) (from_outcome _ _ _ _ _ e.outcome (kept _ _ _ e.not_found))
