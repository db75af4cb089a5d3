-- The measure is the size of Q, which falls.
use Rattle.ideal_descend.proofs.+take_turns.Given as goal

abbrev pub decreases-take_turns : goal.decreases-take_turns
decreases-take_turns l = l.b.now.size
