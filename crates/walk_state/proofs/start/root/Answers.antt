use Rattle.std.proofs.Common.{ℕ, suc, ◌-◌, arith, ◌≡◌, subst}
use Rattle.walk_state.specs.Rooted.{Rooted, rooted_first, rooted_more, rooted_all}
use Rattle.walk_state.proofs.start.root.Goals as goal

pub loop-e-init : goal.loop-e-init
loop-e-init c =
    rooted_first c.args.f.q c.args.f.is_field.1 c.args.radicand.now c.args.h (omega arith)

pub coefficient-requires : goal.coefficient-requires
coefficient-requires c =
    record {
      e_lt_h = (omega arith, c.requires.h_bound);
      by_index = c.requires.by_index;
      within = c.loop-e.invariant.within;
    }

pub loop-e-preserved : goal.loop-e-preserved
loop-e-preserved c =
    let l = c.loop-e in
    let back : l.e ≡ suc (l.e - 1) = omega arith in
    rooted_more c.args.f.q c.args.f.is_field.1 c.args.radicand.now c.args.h (omega arith) (l.e - 1) l.d _ (subst (λ (n : ℕ). Rooted c.args.f.q c.args.radicand.now c.args.h n l.d) back l.invariant) (omega arith) c.coefficient.ensures

pub returns : goal.returns
returns c =
    let l = c.loop-e in
    let none : l.e ≡ 0 = omega arith in
    rooted_all c.args.f.q c.args.f.is_field.1 c.args.radicand.now c.args.h (omega arith) l.d (subst (λ (n : ℕ). Rooted c.args.f.q c.args.radicand.now c.args.h n l.d) none l.invariant)
