-- The product of 2/lc Q_j after a step of the walk.
use Rattle.std.specs.Prelude.{ℕ, ◌*◌, ◌≡◌, List}
use Rattle.std.proofs.Common.{add-one, ◌∙◌}
use Rattle.base_polynomial.specs.declared.Poly.{Poly}
use Rattle.walk_state.specs.declared.Walk.{Walk}
use Rattle.walk_stride.specs.declared.Progress.{Progress}
use Rattle.walk_stride.specs.Progress.{Taken}
use Rattle.walk_stride.specs.Walked.{Walked}
use Rattle.walk_lead.specs.Kept.{Kept, largest_factor, factor_of, kept_next}

module _ (w : Walk) {before current : Poly} {rest : List ℕ} {at : Progress} (t : Walked w before current rest at) {remains : List ℕ} {after : Poly} {to : Progress} (u : Taken w before current rest remains after at to) where
  pub kept_stride : {k n r : ℕ} → Kept w at.index.0 k n → r ≡ n * factor_of w.inverses.now current → Kept w to.index.0 (k * largest_factor) r
  kept_stride m e = kept_next w t.state m e to.index.0 (u.index_is ∙ add-one at.index.0)
