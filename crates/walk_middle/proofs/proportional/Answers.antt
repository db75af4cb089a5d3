use Rattle.std.proofs.Common.{◌-◌, arith, refl, sym, ◌∙◌, get_or, below_more}
use mathlib.Core.Bool.{false≢true}
use Rattle.walk_middle.specs.Compared.{difference_zero, product_small, proportional_places}
use Rattle.walk_middle.proofs.proportional.Goals as goal

pub overflow_add-x : goal.overflow_add-x
overflow_add-x c =
    let i = c.loop-i.i in
    let h = c.args.f.is_field.2 in
    let x = c.requires.within.0.reduced in
    let y = c.requires.within.1.reduced in
    let u = x i in
    let v = y (c.args.y.now.size - 1) in
    let w = x (c.args.y.now.size - 1) in
    let m = product_small {x = get_or c.args.x.now.c i 0} {y = get_or c.args.y.now.c (c.args.y.now.size - 1) 0} (omega arith) (omega arith) in
    let n = product_small {x = c.args.f.q - get_or c.args.y.now.c i 0} {y = get_or c.args.x.now.c (c.args.y.now.size - 1) 0} (omega arith) (omega arith) in
    omega arith

pub returns-then-reduce-ne0 : goal.returns-then-reduce-ne0
returns-then-reduce-ne0 c =
    let i = c.loop-i.i in
    let y = c.requires.within.1.reduced i in
    (λ e. absurd (false≢true e), λ h. absurd (c.if-reduce-ne0.true (c.reduce.ensures ∙ (difference_zero c.args.f.q _ (get_or c.args.y.now.c i 0) _ (omega arith)).1 (h i))))

pub loop-i-preserved : goal.loop-i-preserved
loop-i-preserved c =
    let l = c.loop-i in
    let y = c.requires.within.1.reduced l.i in
    let e = sym c.reduce.ensures ∙ c.if-reduce-ne0.false in
    below_more _ _ l.invariant ((difference_zero c.args.f.q _ (get_or c.args.y.now.c l.i 0) _ (omega arith)).0 e)

pub returns : goal.returns
returns c =
    let l = c.loop-i in
    (λ _. proportional_places c.args.f.q c.args.x.now.c c.args.y.now.c c.args.y.now.size c.requires.within.0.past c.requires.within.1.past (λ k h. l.invariant k (omega arith)), λ _. refl)
