-- The later words are tested against the layout's kinds.
use Rattle.std.proofs.Common.{arith, rules, ap, ◌∙◌, not, List, ℕ, map, drop, length-drop}
use Rattle.std.proofs.lemmas.List.{take_all}
use Rattle.spec_arithmetic.specs.Words.{kind, same}
use Rattle.spec_definitions.specs.Ticket.{later_kinds}
use Rattle.spec_laws.specs.Layout.{length_later}
use Rattle.ticket_layout.specs.Kinds.{kinds_test}
use Rattle.ticket_layout.proofs.layout.wrong_later.Goals as goal

pub returns : goal.returns
returns c =
    let n = c.args.n in
    let w : List ℕ = c.args.words.now in
    kinds_test _ (later_kinds n) (λ i k h p. search rules) (omega (arith, length_later n, length-drop 2 w)) _ c.wrong_kinds.ensures.wrong c.wrong_kinds.ensures.right
    ∙ ap (λ (l : List ℕ). not (same (map kind l) (later_kinds n))) (take_all _ (drop 2 w) (omega (arith, length-drop 2 w)))
