use Rattle.std.proofs.Common.{ℕ, ◌+◌, ◌%◌, ◌≡◌, arith, ap, ◌∙◌, get_or, get_or-set_same, get_or-set_other, below_more}
use Rattle.unit_combine.specs.Sum.{sum_at}
use Rattle.unit_combine.proofs.combine.combine.Goals as goal

pub loop-k-preserved : goal.loop-k-preserved
loop-k-preserved c =
    let l = c.loop-k in
    let t = c.terms in
    let same : get_or l.into l.k 0 ≡ get_or c.args.into.now l.k 0 = l.invariant.rest l.k (omega arith) in
    let value = c.reduce.ensures ∙ ap (λ (x : ℕ). (x + t.result) % c.args.f.q) same ∙ sum_at c.args.f.q (let o = c.args.f.is_field.1 in omega arith) c.args.a.now.c c.args.from.now c.args.into.now l.k t.result t.ensures.residue in
    record {
      done = below_more _ l.k (λ i h. get_or-set_other l.into l.k i c.reduce.result 0 (λ e. omega arith) ∙ l.invariant.done i h) (get_or-set_same l.into l.k c.reduce.result 0 (omega arith) ∙ value);
      rest = λ i h. get_or-set_other l.into l.k i c.reduce.result 0 (λ e. omega arith) ∙ l.invariant.rest i (omega arith);
    }
