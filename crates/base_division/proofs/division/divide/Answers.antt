-- The remainder is the dividend less the quotient's multiple of the divisor. A shorter dividend is the remainder
-- itself, and the quotient is 0.
use Rattle.std.proofs.Common.{arith, subst, List, ℕ}
use Rattle.base_polynomial.specs.Result.{result_quo, size_quo}
use Rattle.base_places.specs.Record.{Is}
use Rattle.base_field.specs.Named.{name}
use Rattle.base_division.specs.Difference.{held_fits}
use Rattle.base_division.specs.Divided.{is_remainder, is_rem_same, quo_zero}
use Rattle.base_division.proofs.division.divide.Goals as goal

pub subtract_product-requires-clause-places : goal.subtract_product-requires-clause-places
subtract_product-requires-clause-places c =
    let a = c.requires.0 in
    let fits = size_quo _ _ _ a _ _ c.requires.1 _ _ c.quotient.ensures in
    let short = a.short in
    omega arith

pub subtract_product-requires-clause-fits : goal.subtract_product-requires-clause-fits
subtract_product-requires-clause-fits c =
    let z = result_quo _ _ _ c.requires.0 _ _ c.requires.1 _ _ c.requires.2 c.quotient.ensures in
    (held_fits c.requires.0, held_fits z.held, held_fits c.requires.1)

pub returns-then-a-b-clause-remainder : goal.returns-then-a-b-clause-remainder
returns-then-a-b-clause-remainder c = is_rem_same _ c.requires.0 c.requires.1 (omega arith)

pub returns-then-a-b-clause-quotient : goal.returns-then-a-b-clause-quotient
returns-then-a-b-clause-quotient c =
    let f = c.args.f in
    subst (λ (l : List ℕ). Is (name f) c.zero.result.c c.zero.result.size l) (quo_zero f.q c.requires.0 c.requires.1 (omega arith) f.is_field.0) (c.zero.ensures (name f))

pub returns-else-a-b-clause-remainder : goal.returns-else-a-b-clause-remainder
returns-else-a-b-clause-remainder c =
    let z = result_quo _ _ _ c.requires.0 _ _ c.requires.1 _ _ c.requires.2 c.quotient.ensures in
    is_remainder _ c.requires.0 c.requires.1 _ _ z.is _ _ c.subtract_product.ensures
