-- A term with a2 = 0 is a multiple of q.
use Rattle.std.proofs.Common.{ℕ, ◌%◌, ap, ◌∙◌}
use Rattle.walk_short.specs.Sums.{without_term}
use Rattle.walk_short.proofs.passes.rest_of.Goals as goal
use Rattle.walk_short.proofs.passes.rest_of.Goals.{then-this-eq2, else-this-eq2}

pub returns : goal.returns
returns g c =
    c.reduce.ensures
    ∙ elim c.if-this-eq2.branch [
      | then-this-eq2 w ↦ ap (λ (t : ℕ). t % c.args.f.q) w.reduce-is
      | else-this-eq2 w ↦ ap (λ (t : ℕ). t % c.args.f.q) w.reduce-is ∙ without_term c.args.f.q _ c.args.a2 c.args.z (c.requires.degree w.if-this-eq2.false)
    ]
