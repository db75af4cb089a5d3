use Rattle.std.proofs.Common.{◌*◌, ◌%◌, ◌≡◌, ◌≢◌, refl, rules, tests}
use Rattle.std.proofs.lemmas.Iterator.{cases_from_any, YieldsList-from_range}
use Rattle.base_field.specs.Named.{name}
use Rattle.estimate_counts.specs.Counts.{squares_tried}
use Rattle.estimate_counts.proofs.is_square.Goals as goal

pub returns : goal.returns
returns c =
    let q = c.args.f.q in
    let v = c.args.v in
    squares_tried (name c.args.f) v _
    (cases_from_any _ _ _ (λ z. (z * z) % q ≡ v) (λ z. (z * z) % q ≢ v) c.any.ensures.ran (YieldsList-from_range 1 q _ refl refl) (λ z s k. search (rules, tests)) (λ z s k. search (rules, tests)))
