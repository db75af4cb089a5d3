-- The measure is the size of b: the remainder's is smaller. Each branch is a rule of the definition, and
-- where b is constant two of them.
use Rattle.base_euclid.proofs.gcd.+gcd.Given as goal

abbrev pub decreases-gcd : goal.decreases-gcd
decreases-gcd l = l.b.now.size
