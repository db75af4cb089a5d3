-- A cut word is refused, and whole words are a ticket. T3 of the first line follows from what is printed.
use Rattle.std.proofs.Common.{ℕ, List, ◌≡◌, ◌++◌, sym, ap, ◌∙◌}
use Rattle.spec_definitions.specs.Answers.{Outcome, said}
use Rattle.spec_definitions.specs.Program.{first_line, program_of}
use Rattle.walk_outcome.specs.Outcome.{meaning}
use Rattle.out_program.specs.Program.{program_cut, program_whole}
use Rattle.out_program.specs.FirstLine.{printed_least}
use Rattle.out_program.proofs.write_output.Goals as goal

pub returns-then-has_cut_word : goal.returns-then-has_cut_word
returns-then-has_cut_word c =
    let p : c.push_first.new.text ≡ program_of c.args.input.now =
    c.push_first.ensures.line
    ∙ ap (λ (l : List ℕ). l ++ first_line (said (meaning c.into.result))) c.clear.ensures
    ∙ ap (λ (x : Outcome). first_line (said x)) c.into.ensures
    ∙ program_cut _ (sym c.has_cut_word.ensures ∙ c.if-has_cut_word.true) in
    record { prints = p; least = printed_least _ p }

pub returns : goal.returns
returns c =
    let p : c.push_answer.new.text ≡ program_of c.args.input.now = c.push_answer.ensures ∙ program_whole _ (sym c.has_cut_word.ensures ∙ c.if-has_cut_word.false) _ c.words_of.ensures in
    record { prints = p; least = printed_least _ p }
