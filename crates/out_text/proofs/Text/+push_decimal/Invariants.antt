-- The number falls.
use Rattle.out_text.proofs.Text.+push_decimal.Given as goal

abbrev pub decreases-push_decimal : goal.decreases-push_decimal
decreases-push_decimal l = l.x
