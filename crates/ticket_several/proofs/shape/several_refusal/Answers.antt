-- The shape is tested first; where it is right there is a word 0, which names the degree.
use Rattle.std.proofs.Common.{arith, sym, ◌∙◌}
use Rattle.std.proofs.lemmas.Grind.{common_steps}
use Rattle.spec_laws.specs.FirstTest.{first_applies, first_passes, first_nil}
use Rattle.spec_several.specs.Several.{degree_of, several_refusal}
use Rattle.ticket_several.specs.Shape.{right_long}
use Rattle.ticket_several.proofs.shape.several_refusal.Goals as goal

pub returns-then-wrong_shape : goal.returns-then-wrong_shape
unfolding several_refusal
returns-then-wrong_shape c = grind (arith, common_steps, first_applies, first_passes)

pub bounds-words-0 : goal.bounds-words-0
bounds-words-0 c = let l = right_long _ (sym c.wrong_shape.ensures ∙ c.if-wrong_shape.false) in omega arith

pub returns-then-wrong_degree : goal.returns-then-wrong_degree
unfolding several_refusal degree_of
returns-then-wrong_degree c = grind (arith, common_steps, first_applies, first_passes)

pub returns : goal.returns
unfolding several_refusal degree_of
returns c = grind (arith, common_steps, first_passes, first_nil)
