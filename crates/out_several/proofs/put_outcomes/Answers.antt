use Rattle.std.proofs.Common.{◌<◌, arith, refl, sym, ap, length, below_more}
use lib.ListN.{length-map}
use Rattle.spec_definitions.specs.Answers.{refused, said}
use Rattle.std.proofs.lemmas.List.{get_or-map}
use Rattle.walk_outcome.specs.Outcome.{meaning}
use Rattle.out_numbers.proofs.NumberLaws.{plain_same}
use Rattle.out_several.proofs.put_outcomes.Goals as goal

pub loop-i-init : goal.loop-i-init
loop-i-init c = (refl, λ k h. absurd (omega arith))

pub loop-i-preserved : goal.loop-i-preserved
loop-i-preserved c =
    let l = c.loop-i in
    let h = c.put_outcome.ensures in
    let places = c.args.a.now.places in
    let within : l.i < length places = omega (arith, c.requires, length-map places meaning) in
    (h.long, below_more _ l.i (λ k b. h.earlier k b _ (l.invariant.1 k b)) (plain_same (ap said (sym (get_or-map meaning places l.i _ (refused 0) within))) h.here))

pub returns : goal.returns
returns c = record {
  words_value = (refl, refl);
  out_len = (c.loop-i.invariant.0, λ i h. c.loop-i.invariant.1 i (omega arith));
}
