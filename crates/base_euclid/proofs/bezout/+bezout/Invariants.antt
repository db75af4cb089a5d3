-- The measure is the size of b: the remainder's is smaller. Each branch is a rule of the definition, and
-- where b is constant two of them; the factors fit by their lengths.
use Rattle.base_euclid.proofs.bezout.+bezout.Given as goal

abbrev pub decreases-bezout : goal.decreases-bezout
decreases-bezout l = l.b.now.size
