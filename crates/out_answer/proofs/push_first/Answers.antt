-- Each case has its line, of at most three numbers.
use Rattle.std.proofs.Common.{◌++◌, arith, sym, ap, ◌∙◌, subst}
use Rattle.spec_definitions.specs.Text.{ascii}
use Rattle.spec_definitions.specs.Answers.{said}
use Rattle.spec_definitions.specs.Program.{first_line}
use Rattle.spec_demands.specs.Numbered.{Numbered}
use Rattle.walk_outcome.specs.Outcome.{meaning}
use Rattle.out_answer.proofs.First.{refused_first, room_for, within}
use Rattle.out_answer.proofs.push_first.Goals as goal

pub push_line-requires : goal.push_line-requires
push_line-requires c = room_for _ _ _ (omega arith, (omega arith, (omega arith, tt))) (omega arith) c.requires.room

pub push_line-requires-in-Spent : goal.push_line-requires-in-Spent
push_line-requires-in-Spent c = room_for _ _ _ (omega arith, (omega arith, tt)) (omega arith) c.requires.room

pub push_line-requires-in-Refused : goal.push_line-requires-in-Refused
push_line-requires-in-Refused c = room_for _ _ _ (omega arith, tt) (omega arith) c.requires.room

pub returns-in-Found : goal.returns-in-Found
unfolding ascii said first_line
returns-in-Found c = record {
  line = c.push_line.ensures ∙ ap (λ o. c.args.text.now ++ first_line (said (meaning o))) (sym c.in-Found.is);
  upper_bound = within _ _ _ c.push_line.ensures (omega arith, (omega arith, (omega arith, tt))) (omega arith);
}

pub returns-in-Spent : goal.returns-in-Spent
unfolding ascii said first_line
returns-in-Spent c = record {
  line = c.push_line-in-Spent.ensures ∙ ap (λ o. c.args.text.now ++ first_line (said (meaning o))) (sym c.in-Spent.is);
  upper_bound = within _ _ _ c.push_line-in-Spent.ensures (omega arith, (omega arith, tt)) (omega arith);
}

pub returns-in-Refused : goal.returns-in-Refused
unfolding ascii
returns-in-Refused c =
    let n = subst (λ o. Numbered (meaning o)) c.in-Refused.is c.requires.numbered in
    record {
      line = c.push_line-in-Refused.ensures ∙ ap (λ l. c.args.text.now ++ l) (refused_first _ n ∙ ap (λ o. first_line (said (meaning o))) (sym c.in-Refused.is));
      upper_bound = within _ _ _ c.push_line-in-Refused.ensures (omega arith, tt) (omega arith);
    }
