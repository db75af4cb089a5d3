use Rattle.std.proofs.Common.{◌+◌, ◌-◌, arith, rules, length}
use Rattle.spec_several.specs.Several.{several_kinds}
use Rattle.spec_several.proofs.Laws.{kinds_length}
use Rattle.ticket_layout.specs.Kinds.{kinds_test}
use Rattle.ticket_several.proofs.shape.other_kinds.Goals as goal

pub returns : goal.returns
returns c =
    let n = c.args.n in
    let w = c.args.words.now in
    kinds_test w (several_kinds n (length w - (n + 4))) (λ i k h p. search rules) (omega (arith, kinds_length n (length w - (n + 4)))) _ c.wrong_kinds.ensures.wrong c.wrong_kinds.ensures.right
