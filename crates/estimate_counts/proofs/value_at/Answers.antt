use Rattle.std.proofs.Common.{ℕ, suc, ◌-◌, ◌≤◌, ◌<◌, mod-lt, arith, ◌≡◌, sym, ap, ◌∙◌, subst, length, get_or}
use Rattle.base_field.specs.Named.{ops}
use Rattle.base_polynomial.specs.Held.{held_length}
use Rattle.estimate_counts.specs.Counts.{value_from, value_none, value_next}
use Rattle.estimate_counts.proofs.value_at.Goals as goal

pub loop-i-init : goal.loop-i-init
loop-i-init c =
    let h = c.requires.0.short in
    let long = held_length _ _ _ c.requires.0 in
    let within : c.args.d.now.size ≤ length c.args.d.now.c = omega arith in
    (omega arith, sym (value_none _ _ _ _ within))

pub loop-i-preserved : goal.loop-i-preserved
loop-i-preserved c =
    let l = c.loop-i in
    let f = c.args.f in
    let d = c.args.d.now in
    let h = c.requires.0.short in
    let long = held_length _ _ _ c.requires.0 in
    let from : l.i ≡ suc (l.i - 1) = omega arith in
    let product = c.mul.ensures ∙ ap (λ (k : ℕ). (ops f).mul c.args.x k) (l.invariant.1 ∙ ap (value_from (ops f) d.c d.size c.args.x) from) in
    let sum = c.add-value.ensures ∙ ap (λ (k : ℕ). (ops f).add (get_or d.c (l.i - 1) 0) k) product in
    (subst (λ (k : ℕ). k < f.q) (sym c.add-value.ensures) (mod-lt _ (omega arith)), sum ∙ value_next _ _ _ _ (l.i - 1) (omega arith) (omega arith))
