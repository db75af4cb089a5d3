use Rattle.std.proofs.Common.{rules, arith, sym, ◌∙◌}
use Rattle.ticket_radicand.specs.Radicand.{length_coefficients, at_coefficients, filled_holds}
use Rattle.ticket_radicand.proofs.radicand_of.Goals as goal

pub returns : goal.returns
returns c =
    let n = c.args.n in
    let w = c.args.words.now in
    let long = length_coefficients n w (omega arith) in
    filled_holds c.filled.ensures.places (omega arith) (c.filled.ensures.size ∙ sym long) long (λ i v h p. (let e = at_coefficients n w i h in search rules))
