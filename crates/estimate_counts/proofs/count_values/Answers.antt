use Rattle.std.proofs.Common.{arith, refl, sym, subst}
use Rattle.base_field.specs.Named.{name, named}
use Rattle.spec_estimate.proofs.Values.{value_is}
use Rattle.spec_fields.specs.Named.{Ok}
use Rattle.estimate_counts.specs.Counts.{counts_none, counts_below, counts_next, counts_all}
use Rattle.estimate_counts.proofs.count_values.Goals as goal

pub loop-x-init : goal.loop-x-init
loop-x-init c = counts_none refl refl

pub counted-counts-requires : goal.counted-counts-requires
counted-counts-requires c =
    let f = c.args.f in
    let few = counts_below c.loop-x.invariant in
    let low = subst (Ok (name f)) (sym c.value_at.ensures) (value_is (name f) (named f f.is_field) _ _).below in
    (low, omega arith, omega arith)

pub loop-x-preserved : goal.loop-x-preserved
loop-x-preserved c = counts_next c.loop-x.invariant c.value_at.ensures c.counted-counts.ensures

pub returns : goal.returns
returns c = counts_all c.loop-x.invariant (omega arith)
