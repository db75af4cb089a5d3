-- In a refusal each array takes a zero polynomial.
use Rattle.std.proofs.Common.{refl}
use Rattle.out_polynomials.specs.Lent.{zero_put, in_refusal}
use Rattle.out_polynomials.proofs.put_ideal_at.Goals as goal

pub returns-in-Err-clause-zeros : goal.returns-in-Err-clause-zeros
returns-in-Err-clause-zeros c =
    in_refusal c.args.a.outcome (λ _. (zero_put c.put-in-Err.ensures c.zero.ensures, zero_put c.put-in-Err-2.ensures c.zero-in-Err.ensures, refl, refl))
