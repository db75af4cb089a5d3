-- What is found fits the lent list by what `listing` says, and its lines fit the text.
use Rattle.std.proofs.Common.{◌≡◌, ◌++◌, arith, sym, ap, ◌∙◌, length, rules}
use Rattle.spec_definitions.specs.Answers.{said}
use Rattle.spec_definitions.specs.Program.{first_line, record_lines}
use Rattle.spec_demands.proofs.Numbered.{t1_numbers}
use Rattle.walk_outcome.specs.Outcome.{meaning}
use Rattle.walk_outcome.proofs.Kept.{not_found}
use Rattle.out_program.specs.Found.{found_fits, records_fit}
use Rattle.out_program.specs.Program.{answer_found, answer_other}
use Rattle.out_program.proofs.push_answer.Goals as goal

pub push_first-requires-clause-numbered : goal.push_first-requires-clause-numbered
push_first-requires-clause-numbered c = t1_numbers.2 _ _ _ (sym c.listing-outcome.ensures.says)

pub returns-in_default : goal.returns-in_default
returns-in_default c =
    c.push_first.ensures.line
    ∙ ap (λ l. l ++ first_line (said (meaning c.listing-outcome.result.outcome))) c.requires
    ∙ answer_other _ _ _ c.listing-outcome.ensures.says (t1_numbers.2 _ _ _ (sym c.listing-outcome.ensures.says)) (not_found c.listing-outcome.result.outcome c.in_default.not-Found)

pub degree-requires : goal.degree-requires
degree-requires c = (found_fits _ _ _ _ _ (sym (ap (λ x. said (meaning x)) c.in-Found.is) ∙ c.listing-outcome.ensures.says)).words

pub push_records-requires : goal.push_records-requires
push_records-requires c =
    let f = found_fits _ _ _ _ _ (sym (ap (λ x. said (meaning x)) c.in-Found.is) ∙ c.listing-outcome.ensures.says) in
    let list = c.listing-outcome.new.out in
    let e : length list ≡ 8192 = search rules in
    let r = records_fit f c.degree.ensures list (search rules) in
    record {
      degree = (r.0, r.1);
      whole = r.2;
      room = omega (arith, ap length c.requires, c.push_first.ensures.upper_bound, r.2);
    }

pub returns : goal.returns
returns c =
    c.push_records.ensures
    ∙ ap (λ l. l ++ record_lines c.listing-outcome.new.out c.degree.result 0 c.in-Found.m.0) (c.push_first.ensures.line ∙ ap (λ l. l ++ first_line (said (meaning c.listing-outcome.result.outcome))) c.requires)
    ∙ answer_found _ _ _ _ _ _ _ _ c.degree.ensures (ap meaning c.in-Found.is) c.listing-outcome.ensures.says c.listing-outcome.ensures.list
