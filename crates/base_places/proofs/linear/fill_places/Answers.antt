use Rattle.base_places.specs.Places.{filled_by_none}
use Rattle.base_places.proofs.linear.fill_places.Goals as goal

pub loop-i-init : goal.loop-i-init
loop-i-init g c = filled_by_none
