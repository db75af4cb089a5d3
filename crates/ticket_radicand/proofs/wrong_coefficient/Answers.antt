use Rattle.std.proofs.Common.{◌≤◌, ◌<◌, ◌≡◌, length, rules, tests, arith}
use Rattle.std.proofs.lemmas.Iterator.{cases_from_any, YieldsList-from_slice}
use Rattle.spec_definitions.specs.Ticket.{wrong_coefficient}
use Rattle.base_field.specs.Named.{name}
use Rattle.ticket_radicand.specs.Radicand.{any_coefficient}
use Rattle.ticket_radicand.proofs.wrong_coefficient.Goals as goal

pub returns : goal.returns
unfolding wrong_coefficient
returns c =
    let f = c.args.f in
    let radicand = c.args.radicand.now in
    let long : length radicand.c ≡ 129 = search rules in
    any_coefficient (name f) (omega arith) radicand.c radicand.size (omega arith) _
    (cases_from_any _ _ _ (λ x. f.q ≤ x) (λ x. x < f.q) c.any.ensures.ran (YieldsList-from_slice _ cc) (λ x q k. search (rules, tests)) (λ x q k. search (rules, tests)))
