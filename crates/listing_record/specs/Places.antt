-- The places of the walk's root and of a remainder, by its degree.
use Rattle.std.specs.Prelude.{ℕ, ◌+◌, ◌/◌, List}
use Rattle.std.proofs.Common.{sym, subst}
use Rattle.base_places.specs.Places.{Within}
use Rattle.walk_state.specs.declared.Walk.{Walk}
use Rattle.walk_state.specs.Walk.{name, top}
use Rattle.walk_state.specs.Start.{root_within, top_is}

module _ (w : Walk) where
  pub rest_places : (c : List ℕ) → Within (name w) c (top w) → Within (name w) c (w.root.surd.n / 2 + 1)
  rest_places c h = subst (Within (name w) c) (sym (top_is w.root.surd.n w.root.surd.degree_two)) h

  pub root_places : Within (name w) w.root.d (w.root.surd.n / 2 + 1)
  root_places = let s = w.root.surd in rest_places w.root.d (root_within s.field.q s.n s.radicand.c s.radicand.size s.admitted s.held s.degree_two w.root.d w.root.d_is)
