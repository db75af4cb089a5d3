-- The values that are read are the ticket's parts.
use Rattle.std.proofs.Common.{rules, sym}
use Rattle.ticket_read.specs.Accepted.{radicand_admitted, radicand_held, n_even, degree_two, budget_few, read_size, read_itself, read_refusal, are_read}
use Rattle.ticket_read.proofs.read_radicand.Goals as goal

pub radicand_refusal-requires : goal.radicand_refusal-requires
radicand_refusal-requires c =
    record {
      n_bound = (c.requires.past.n_most, read_size c.requires.past c.radicand_of-radicand.ensures);
      is = read_itself c.requires.past c.radicand_of-radicand.ensures;
    }

pub returns-in_err-radicand_refusal-clause-refused : goal.returns-in_err-radicand_refusal-clause-refused
returns-in_err-radicand_refusal-clause-refused c =
    let e = read_refusal c.requires.past c.radicand_of-radicand.ensures c.in_err-radicand_refusal.ensures in
    search (rules, e)

pub invariant_of-result : goal.invariant_of-result
invariant_of-result c =
    let r = are_read c.requires.past c.radicand_of-radicand.ensures c.in_ok-radicand_refusal.ensures c.value.ensures in
    record { admitted = radicand_admitted r; held = radicand_held r; degree_two = degree_two r }

pub invariant_of-result-2 : goal.invariant_of-result-2
invariant_of-result-2 c =
    let r = are_read c.requires.past c.radicand_of-radicand.ensures c.in_ok-radicand_refusal.ensures c.value.ensures in
    record { few = budget_few r }

pub invariant_of-result-3 : goal.invariant_of-result-3
invariant_of-result-3 c =
    let r = are_read c.requires.past c.radicand_of-radicand.ensures c.in_ok-radicand_refusal.ensures c.value.ensures in
    record { even = n_even r }

pub returns : goal.returns
returns c =
    let r = are_read c.requires.past c.radicand_of-radicand.ensures c.in_ok-radicand_refusal.ensures c.value.ensures in
    record { refused = sym r.passes; read = r.ticket_is }
