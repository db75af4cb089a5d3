use Rattle.std.proofs.Common.{ℕ, ◌≤◌, ◌<◌, ◌-◌, ◌*◌, ◌/◌, ◌%◌, mod-lt, mul-le-mul, arith, refl, sym, subst, get_or}
use Rattle.spec_bridge.specs.Residues.{inverse_below}
use Rattle.walk_state.specs.Table.{table_two, table_next}
use Rattle.walk_state.proofs.start.fill_inverses.Goals as goal

pub loop-a-init : goal.loop-a-init
loop-a-init c = table_two c.args.f.q (omega arith)

pub overflow_mul-inverses : goal.overflow_mul-inverses
overflow_mul-inverses c =
    let l = c.loop-a in
    let z : 0 < l.a = omega arith in
    let h : c.args.f.q % l.a < l.a = mod-lt c.args.f.q z in
    let w : get_or l.inverses (c.args.f.q % l.a) 0 < c.args.f.q = subst (λ (m : ℕ). m < c.args.f.q) (sym (l.invariant.done (c.args.f.q % l.a) h)) (inverse_below c.args.f.q (c.args.f.q % l.a) (omega arith)) in
    let x : c.args.f.q - c.args.f.q / l.a ≤ 4095 = omega arith in
    let y : get_or l.inverses (c.args.f.q % l.a) 0 ≤ 4095 = omega arith in
    let m : (c.args.f.q - c.args.f.q / l.a) * get_or l.inverses (c.args.f.q % l.a) 0 ≤ 16769025 = mul-le-mul x y in
    omega arith

pub loop-a-preserved : goal.loop-a-preserved
loop-a-preserved c =
    let l = c.loop-a in
    table_next c.args.f.q l.inverses l.a _ l.invariant (omega arith) (omega arith) (omega arith) refl

pub returns : goal.returns
returns c = λ a h. c.loop-a.invariant.done a (omega arith)
