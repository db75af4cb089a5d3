use Rattle.std.proofs.Common.{rules, arith, sym, ◌∙◌}
use Rattle.spec_several.proofs.Jobs.{length_residues, residue_at}
use Rattle.ticket_radicand.specs.Radicand.{filled_holds}
use Rattle.ticket_several.proofs.job.reduced.Goals as goal

pub returns : goal.returns
returns c =
    let q = c.args.f.q in
    let n = c.args.n in
    let w = c.args.words.now in
    let long = length_residues q n w (omega arith) in
    filled_holds c.filled.ensures.places (omega arith) (c.filled.ensures.size ∙ sym long) long (λ i v h p. (let e = residue_at q n w (omega arith) i (omega arith) in search rules))
