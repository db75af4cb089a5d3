-- 0 counts in neither; else the test of a nonzero square tells.
use Rattle.std.proofs.Common.{arith, refl, sym, ◌∙◌}
use Rattle.base_field.specs.Named.{named}
use Rattle.estimate_counts.specs.Counts.{counted_zero, counted_square, counted_non_square}
use Rattle.estimate_counts.proofs.counted.Goals as goal

pub returns-then-v-eq0 : goal.returns-then-v-eq0
returns-then-v-eq0 c = counted_zero (named c.args.f c.args.f.is_field) c.if-v-eq0.true refl refl

pub returns-then-is_square : goal.returns-then-is_square
returns-then-is_square c = counted_square (sym c.if-is_square.true ∙ c.is_square.ensures) (omega arith) refl

pub returns-else-is_square : goal.returns-else-is_square
returns-else-is_square c =
    counted_non_square c.requires.0 c.if-v-eq0.false (sym c.if-is_square.false ∙ c.is_square.ensures) refl (omega arith)
