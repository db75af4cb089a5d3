use Rattle.std.proofs.Common.{sym, ap₂, ◌∙◌, subst, ℕ, ◌≤◌, ◌<◌, ◌+◌, ◌-◌, ◌*◌, mod-lt, mul-le-mul, arith}
use Rattle.spec_bridge.specs.Residues.{inverse_lt}
use Rattle.base_places.specs.Down.{down_more}
use Rattle.base_field.specs.Named.{name, ops}
use Rattle.base_division.specs.Difference.{held_fits}
use Rattle.base_division.specs.Divided.{quo_next, quo_none_found, quo_within, is_quotient}
use Rattle.base_division.proofs.division.quotient.Goals as goal

pub loop-k-init : goal.loop-k-init
loop-k-init c = record {
  size = c.saturating_sub-z.ensures;
  found = quo_none_found _ c.requires.0 c.requires.1 (c.zero.ensures (name c.args.f)) _ c.saturating_sub-z.ensures;
}

pub rest_at-rest-requires-clause-fits : goal.rest_at-rest-requires-clause-fits
rest_at-rest-requires-clause-fits c =
    let l = c.loop-k in
    let a = c.requires.0 in
    let short = a.short in
    ((quo_within _ a c.requires.1 l.invariant.size l.k (omega arith) l.invariant.found, omega arith), (held_fits c.requires.1).0)

pub overflow_mul-rest : goal.overflow_mul-rest
overflow_mul-rest c =
    let q = c.args.f.q in
    let pos : 0 < q = omega arith in
    let rest : c.rest_at-rest.result < q = subst (λ (x : ℕ). x < q) (sym c.rest_at-rest.ensures) (mod-lt _ pos) in
    let inverse : c.inverse-lead_inverse.result < q = subst (λ (x : ℕ). x < q) (sym c.inverse-lead_inverse.ensures) (inverse_lt q pos _) in
    let small : c.rest_at-rest.result * c.inverse-lead_inverse.result ≤ 4095 * 4095 = mul-le-mul {n₂ = 4095} {m₂ = 4095} (omega arith) (omega arith) in
    omega arith

pub loop-k-preserved : goal.loop-k-preserved
loop-k-preserved c =
    let l = c.loop-k in
    let f = c.args.f in
    let a = c.requires.0 in
    let k = l.k - 1 in
    let short = a.short in
    let next = quo_next f.q a c.requires.1 f.is_field.0 c.requires.2 l.z.c k (k + c.args.b.now.size - 1) l.k (omega arith) (omega arith) l.invariant.found in
    record {
      size = l.invariant.size;
      found = down_more _ l.z.c l.k k _ l.invariant.found (omega arith) (omega arith) (c.reduce.ensures ∙ ap₂ (ops f).mul c.rest_at-rest.ensures c.inverse-lead_inverse.ensures ∙ next);
    }

pub returns : goal.returns
returns c =
    let l = c.loop-k in
    is_quotient _ c.requires.0 c.requires.1 l.invariant.size c.args.f.is_field.0 c.requires.2 l.k (omega arith) l.invariant.found
