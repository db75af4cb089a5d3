use Rattle.std.proofs.Common.{ℕ, ◌*◌, ◌%◌, ◌≤◌, ◌≡◌, arith, mul-le-mul, sym, ap, ◌∙◌, get_or, get_or-set_same, get_or-set_other, below_more}
use Rattle.spec_bridge.specs.Arithmetic.{at_scale}
use Rattle.spec_bridge.specs.Residues.{model}
use Rattle.unit_monic.proofs.multiply.Goals as goal

pub overflow_mul-u : goal.overflow_mul-u
overflow_mul-u c =
    let l = c.loop-k in
    let same : get_or l.list l.k 0 ≡ get_or c.args.list.now l.k 0 = l.invariant.rest l.k (omega arith) in
    let below = c.requires.bounded l.k in
    let small : c.args.u * get_or l.list l.k 0 ≤ 4095 * 4095 = mul-le-mul {n₂ = 4095} {m₂ = 4095} (omega arith) (omega arith) in
    omega arith

pub loop-k-preserved : goal.loop-k-preserved
loop-k-preserved c =
    let l = c.loop-k in
    let same : get_or l.list l.k 0 ≡ get_or c.args.list.now l.k 0 = l.invariant.rest l.k (omega arith) in
    let value = c.reduce.ensures ∙ ap (λ (x : ℕ). (c.args.u * x) % c.args.f.q) same ∙ sym (at_scale (model c.args.f.q (let o = c.args.f.is_field.1 in omega arith)) c.args.u c.args.list.now l.k) in
    record {
      done = below_more _ l.k (λ i h. get_or-set_other l.list l.k i c.reduce.result 0 (λ e. omega arith) ∙ l.invariant.done i h) (get_or-set_same l.list l.k c.reduce.result 0 (omega arith) ∙ value);
      rest = λ i h. get_or-set_other l.list l.k i c.reduce.result 0 (λ e. omega arith) ∙ l.invariant.rest i (omega arith);
    }
