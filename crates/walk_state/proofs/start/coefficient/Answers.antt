-- Each value is a coefficient below q.
use Rattle.std.proofs.Common.{ℕ, ◌+◌, ◌<◌, mod-lt, arith, sym, subst}
use Rattle.spec_bridge.specs.Arithmetic.{oks_mul}
use Rattle.spec_bridge.specs.Residues.{model, inverse_below}
use Rattle.walk_state.proofs.start.coefficient.Goals as goal

pub sub-rest-requires : goal.sub-rest-requires
sub-rest-requires c =
    let z : 0 < c.args.f.q = omega arith in
    (c.requires.by_index (c.args.e + c.args.h), subst (λ (m : ℕ). m < c.args.f.q) (sym c.dot-square.ensures) (oks_mul (model c.args.f.q z) c.args.d.now c.args.d.now (c.args.e + c.args.h)))

pub mul-requires : goal.mul-requires
mul-requires c =
    let z : 0 < c.args.f.q = omega arith in
    (subst (λ (m : ℕ). m < c.args.f.q) (sym c.sub-rest.ensures) (mod-lt _ z), subst (λ (m : ℕ). m < c.args.f.q) (sym c.inverse.ensures) (inverse_below c.args.f.q 2 c.args.f.is_field.1))
