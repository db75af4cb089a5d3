-- The second argument falls.
use Rattle.base_field.proofs.Field.+inverse.Given as goal

abbrev pub decreases-inverse : goal.decreases-inverse
decreases-inverse l = l.a
